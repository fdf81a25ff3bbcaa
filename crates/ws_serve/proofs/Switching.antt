-- The types that a list names.
use Rattle.std.proofs.Common.{◌≡◌, ℕ, ◌||◌, Bool, true, false, List, [], ◌∷◌, Option, Some, None, codes, option_and_then, option_map, refl, ap, ◌∙◌, sym}
use Rattle.std.specs.Str.{bytes_eq}
use Rattle.spec_json.specs.Data.{Data, items_back}
use Rattle.spec_json.specs.Parts.{all_some, as_text}
use Rattle.spec_json.specs.TreeData.{data_of}
use Rattle.spec_json.specs.declared.tree.Tree.{Tree}
use Rattle.spec_json.specs.declared.tree.Tree.TheVariants.{List as Listed}
use Rattle.spec_push.specs.declared.data_types.DataTypes.{DataTypes}
use Rattle.spec_sockets.specs.Switches.{is_among, types_in, types_named}

-- the types of these names, where some were named before
abbrev pub with_more : Bool → Bool → List (List ℕ) → DataTypes
with_more c e names = record { calendars = c || is_among names (codes "Calendar"); events = e || is_among names (codes "CalendarEvent") }

abbrev pub named_from : Bool → Bool → List Data → Option DataTypes
named_from c e ds = option_map (with_more c e) (all_some as_text ds)

or_assoc : (a b c : Bool) → (a || (b || c)) ≡ ((a || b) || c)
or_assoc true b c = refl
or_assoc false b c = refl

or_false : (a : Bool) → (a || false) ≡ a
or_false true = refl
or_false false = refl

one_more : (c e : Bool) (s : List ℕ) (o : Option (List (List ℕ)))
    → option_map (with_more c e) (option_map (λ (ys : List (List ℕ)). s ∷ ys) o) ≡ option_map (with_more (c || bytes_eq s (codes "Calendar")) (e || bytes_eq s (codes "CalendarEvent"))) o
one_more c e s None = refl
one_more c e s (Some ys) = ap Some (λ i. record {
  calendars = or_assoc c (bytes_eq s (codes "Calendar")) (is_among ys (codes "Calendar")) i;
  events = or_assoc e (bytes_eq s (codes "CalendarEvent")) (is_among ys (codes "CalendarEvent")) i;
})

pub named_more : (c e : Bool) (d : Data) (s : List ℕ) (ds : List Data) → as_text d ≡ Some s
    → named_from c e (d ∷ ds) ≡ named_from (c || bytes_eq s (codes "Calendar")) (e || bytes_eq s (codes "CalendarEvent")) ds
named_more c e d s ds is =
    ap (λ (o : Option (List ℕ)). option_map (with_more c e) (option_and_then (λ (y : List ℕ). option_map (λ (ys : List (List ℕ)). y ∷ ys) (all_some as_text ds)) o)) is
    ∙ one_more c e s (all_some as_text ds)

pub not_named : (c e : Bool) (d : Data) (ds : List Data) → as_text d ≡ None → named_from c e (d ∷ ds) ≡ None
not_named c e d ds is = ap (λ (o : Option (List ℕ)). option_map (with_more c e) (option_and_then (λ (y : List ℕ). option_map (λ (ys : List (List ℕ)). y ∷ ys) (all_some as_text ds)) o)) is

pub none_named : (c e : Bool) → named_from c e [] ≡ Some (record { calendars = c; events = e })
none_named c e = ap Some (λ i. record { calendars = or_false c i; events = or_false e i })

-- the types of a list
pub listed_types : (t : Tree) (ds : List Data) (x : Option DataTypes) → t ≡ Listed ds → x ≡ option_map types_named (all_some as_text ds) → x ≡ types_in (data_of t)
listed_types t ds x is h = h ∙ (ap (λ (l : List Data). option_map types_named (all_some as_text l)) (sym (items_back ds)) ∙ ap (λ (y : Tree). types_in (data_of y)) (sym is))
