-- What may be there or not: its two cases.
use Rattle.std.proofs.Common.{◌≡◌, Option, Some, None, refl}

pub by_option : {A Q : Type 0} (o : Option A) → (o ≡ None → Q) → ((x : A) → o ≡ Some x → Q) → Q
by_option None f g = f refl
by_option (Some x) f g = g x refl
