-- One name more among those that a get asks for.
use Rattle.std.proofs.Common.{◌≡◌, ◌||◌, Bool, true, false, cond, refl}

pub either : (b c : Bool) → cond b true c ≡ (b || c)
either true c = refl
either false c = refl

pub turned : (b c rest : Bool) → ((b || c) || rest) ≡ (c || (b || rest))
turned true true rest = refl
turned true false rest = refl
turned false c rest = refl
