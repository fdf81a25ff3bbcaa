-- Starts that are tried one after the other.
use Rattle.std.proofs.Common.{◌≡◌, ℤ, List, [], ◌∷◌, ◌++◌, Option, Some, None, append-nil, refl, sym, ap, ◌∙◌}
use Rattle.slot_find.specs.Steps.{AreTried}
use Rattle.spec_bookings.specs.declared.clash.Clash.{Clash}
use Rattle.spec_slots.proofs.Slots.{free_here, free_join, none_here, told_join}
use Rattle.spec_slots.specs.Slots.{first_free, slot_among, tried_of}
use Rattle.spec_slots.specs.declared.slot.FoundSlot.{FoundSlot}
use Rattle.spec_slots.specs.declared.slot.Tried.{Tried}

one_told : (clash : ℤ → Option Clash) (x : ℤ) (c : Clash) → clash x ≡ Some c → AreTried clash (x ∷ []) (record { start = x; clash = c } ∷ [])
one_told clash x c e = record { none = rw e refl; told = rw e refl }

-- What a look that goes from one start to the next has.

pub none_tried : (clash : ℤ → Option Clash) → AreTried clash [] []
none_tried clash = record { none = refl; told = refl }

pub more_tried : (clash : ℤ → Option Clash) (xs : List ℤ) (ts : List Tried) (x : ℤ) (c : Clash) → AreTried clash xs ts → clash x ≡ Some c → AreTried clash (xs ++ x ∷ []) (ts ++ record { start = x; clash = c } ∷ [])
more_tried clash xs ts x c h e =
    let one = one_told clash x c e in
    record {
      none = free_join clash xs (x ∷ []) h.none ∙ one.none;
      told = ap (λ us. us ++ record { start = x; clash = c } ∷ []) h.told ∙ (ap (λ us. tried_of clash xs ++ us) one.told ∙ sym (told_join clash xs (x ∷ []) h.none));
    }

abbrev pub slot_with : Option ℤ → List Tried → FoundSlot
slot_with o ts = record { start = o; tried = ts }

same_slot : (o q : Option ℤ) (ts us : List Tried) → o ≡ q → ts ≡ us → slot_with o ts ≡ slot_with q us
same_slot o q ts us h k = rw (h, k) refl

pub slot_found : (clash : ℤ → Option Clash) (xs : List ℤ) (ts : List Tried) (x : ℤ) (rest : List ℤ) → AreTried clash xs ts → clash x ≡ None → slot_among clash (xs ++ x ∷ rest) ≡ record { start = Some x; tried = ts }
slot_found clash xs ts x rest h e =
    same_slot (first_free clash (xs ++ x ∷ rest)) (Some x) (tried_of clash (xs ++ x ∷ rest)) ts (free_join clash xs (x ∷ rest) h.none ∙ free_here clash x rest e)
    (told_join clash xs (x ∷ rest) h.none ∙ (ap (λ us. tried_of clash xs ++ us) (none_here clash x rest e) ∙ (append-nil (tried_of clash xs) ∙ sym h.told)))

pub slot_missed : (clash : ℤ → Option Clash) (xs : List ℤ) (ts : List Tried) → AreTried clash xs ts → slot_among clash xs ≡ record { start = None; tried = ts }
slot_missed clash xs ts h = same_slot (first_free clash xs) None (tried_of clash xs) ts h.none (sym h.told)
