-- What follows of a call on a book.
use Rattle.std.proofs.Common.{◌≡◌, ◌∙◌, ℤ, List, ◌++◌, Option, Some, None, Result, Ok, Err, IfOk, OnOk, length, drop, inl, inr, refl, sym, ap, subst}
use Rattle.std.proofs.Math.Seq.{drop-append_seam}
use Rattle.spec_books.specs.Acting.{IsUnkept, Acts, Came}
use Rattle.spec_history.specs.Base.{Base}
use Rattle.spec_history.specs.Signed.{AreSigned}
use Rattle.spec_history.specs.declared.entry.Entry.{Entry}
use Rattle.spec_history.specs.declared.stamp.Stamp.{Stamp}

-- where all is kept no reply tells of what could not be kept
pub none_unkept : {R : Type 0} (unkept : Option (List Entry → R)) (h : List Entry) (reply : R) → unkept ≡ None → IsUnkept unkept h reply → ⊥
none_unkept unkept h reply kept is = let some : Some is.0 ≡ None = sym is.1 ∙ kept in absurd cc

module _ {C R : Type 0} (answer : Base → List Entry → C → ℤ → R) (added : Base → List Entry → C → Stamp → List Entry) (unkept : Option (List Entry → R)) where
  module _ (base : Base) (h : List Entry) (call : C) (stamp : Stamp) (reply : R) where
    -- where all is kept the reply is the answer, and what the call adds came
    pub acts_kept : unkept ≡ None → (came : List Entry) → Acts answer added unkept base h call stamp reply came → (reply ≡ answer base h call stamp.moment) × (came ≡ added base h call stamp)
    acts_kept kept came (inl p) = p
    acts_kept kept came (inr p) = absurd (none_unkept unkept h reply kept p.0)

    pub came_kept : unkept ≡ None → (h' : List Entry) → Came answer added unkept base h call stamp reply h' → (reply ≡ answer base h call stamp.moment) × (h' ≡ h ++ added base h call stamp)
    came_kept kept h' c = let k = acts_kept kept c.0 c.1 in (k.0, c.2 ∙ ap (λ (es : List Entry). h ++ es) k.1)

    -- what was added came
    pub answered_came : (h' : List Entry) → reply ≡ answer base h call stamp.moment → h' ≡ h ++ added base h call stamp → Came answer added unkept base h call stamp reply h'
    answered_came h' answered grown = (added base h call stamp, inl (answered, refl), grown)

    -- what came carries the call's author and turn
    pub came_signed : (came : List Entry) → AreSigned stamp.author stamp.turn (added base h call stamp) → Acts answer added unkept base h call stamp reply came → AreSigned stamp.author stamp.turn came
    came_signed came signed (inl p) = subst (AreSigned stamp.author stamp.turn) (sym p.1) signed
    came_signed came signed (inr p) = subst (AreSigned stamp.author stamp.turn) (sym p.1) tt

    -- what came is what stands behind the history
    pub acts_behind : (h' : List Entry) → Came answer added unkept base h call stamp reply h' → Acts answer added unkept base h call stamp reply (drop (length h) h')
    acts_behind h' c = subst (Acts answer added unkept base h call stamp reply) (sym (ap (drop (length h)) c.2 ∙ drop-append_seam h c.0)) c.1

  -- the same of what a book answers
  module _ (base : Base) (h h' : List Entry) (call : C) (stamp : Stamp) {E : Type 0} where
    pub result_answered : unkept ≡ None → (r : Result R E) → IfOk r (λ x. Came answer added unkept base h call stamp x h') → IfOk r (λ x. x ≡ answer base h call stamp.moment)
    result_answered kept (Ok x) c = (came_kept base h call stamp x kept h' c).0
    result_answered kept (Err e) c = tt

    pub result_grown : unkept ≡ None → (r : Result R E) → IfOk r (λ x. Came answer added unkept base h call stamp x h') → OnOk r (h' ≡ h ++ added base h call stamp)
    result_grown kept (Ok x) c = (came_kept base h call stamp x kept h' c).1
    result_grown kept (Err e) c = tt

    pub result_came : (r : Result R E) → IfOk r (λ x. x ≡ answer base h call stamp.moment) → OnOk r (h' ≡ h ++ added base h call stamp) → IfOk r (λ x. Came answer added unkept base h call stamp x h')
    result_came (Ok x) answered grown = answered_came base h call stamp x h' answered grown
    result_came (Err e) answered grown = tt
