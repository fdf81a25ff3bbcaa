-- JSON values whose numbers are whole, as plain data (RFC 8259 section 3, RFC 8620 section 1.3).
use Rattle.std.specs.Prelude.{◌≡◌, ℕ, suc, max, ℤ, List, [], ◌∷◌, Bool, Option, Some, None, if◌then◌else◌}
use Rattle.std.specs.Str.{bytes_eq}
use Rattle.std.proofs.Common.{ap, refl}

mutual
  pub data Data : Type 0 where
    null : Data
    truth : Bool → Data
    whole : ℤ → Data
    text : List ℕ → Data
    list : Items → Data
    object : Members → Data

  pub data Items : Type 0 where
    no_items : Items
    item : Data → Items → Items

  pub data Members : Type 0 where
    no_members : Members
    member : List ℕ → Data → Members → Members

-- a key and its value
abbrev pub Pair : Type 0
Pair = List ℕ × Data

abbrev pub items_of : List Data → Items
items_of [] = no_items
items_of (d ∷ ds) = item d (items_of ds)

abbrev pub members_of : List Pair → Members
members_of [] = no_members
members_of (p ∷ ps) = member p.0 p.1 (members_of ps)

abbrev pub list_of : Items → List Data
list_of no_items = []
list_of (item d ds) = d ∷ list_of ds

abbrev pub pairs_of : Members → List Pair
pairs_of no_members = []
pairs_of (member k d ms) = (k, d) ∷ pairs_of ms

-- how deep lists and objects nest; an empty one is 1 deep
abbrev mutual
  pub depth : Data → ℕ
  depth null = 0
  depth (truth b) = 0
  depth (whole n) = 0
  depth (text s) = 0
  depth (list ds) = suc (items_depth ds)
  depth (object ms) = suc (members_depth ms)

  pub items_depth : Items → ℕ
  items_depth no_items = 0
  items_depth (item d ds) = max (depth d) (items_depth ds)

  pub members_depth : Members → ℕ
  members_depth no_members = 0
  members_depth (member k d ms) = max (depth d) (members_depth ms)

-- the value at a key
abbrev pub lookup : List ℕ → List Pair → Option Data
lookup k [] = None
lookup k (p ∷ ps) = if bytes_eq p.0 k then Some p.1 else lookup k ps

-- the value at a key of an object
abbrev pub field : List ℕ → Data → Option Data
field k (object ms) = lookup k (pairs_of ms)
field k _ = None

pub pairs_back : (ps : List Pair) → pairs_of (members_of ps) ≡ ps
pairs_back [] = refl
pairs_back (p ∷ ps) = ap (λ qs. p ∷ qs) (pairs_back ps)

pub items_back : (ds : List Data) → list_of (items_of ds) ≡ ds
items_back [] = refl
items_back (d ∷ ds) = ap (λ es. d ∷ es) (items_back ds)
