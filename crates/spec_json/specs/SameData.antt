-- A test of whether two JSON values are equal.
use Rattle.std.specs.Prelude.{◌&&◌, Bool, true, false}
use Rattle.std.specs.Ordering.{int_eq}
use Rattle.std.specs.Str.{bytes_eq}
use Rattle.std.proofs.Math.Bool.{beq}
use Rattle.spec_json.specs.Data.{Data, null, truth, whole, text, list, object, Items, no_items, item, Members, no_members, member}

abbrev mutual
  pub same_data : Data → Data → Bool
  same_data null null = true
  same_data (truth a) (truth b) = beq a b
  same_data (whole a) (whole b) = int_eq a b
  same_data (text a) (text b) = bytes_eq a b
  same_data (list ds) (list es) = same_items ds es
  same_data (object ms) (object ns) = same_members ms ns
  same_data _ _ = false

  pub same_items : Items → Items → Bool
  same_items no_items no_items = true
  same_items (item d ds) (item e es) = same_data d e && same_items ds es
  same_items _ _ = false

  pub same_members : Members → Members → Bool
  same_members no_members no_members = true
  same_members (member k d ms) (member l e ns) = bytes_eq k l && (same_data d e && same_members ms ns)
  same_members _ _ = false
