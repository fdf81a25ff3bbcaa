-- A workload has one output.
use Rattle.std.proofs.Common.{◌≡◌, ℕ, ℤ, List, [], ◌∷◌, ◌++◌, Some, None, codes, inl, inr, map, sym, ap, ap₂, ◌∙◌, subst}
use Rattle.std.proofs.lemmas.Option.{same_Some}
use Rattle.std.specs.Prelude.{◌⊎◌, sum}
use Rattle.spec_calls.specs.declared.call.Call.{Call}
use Rattle.spec_calls.specs.declared.call.Reply.{Reply}
use Rattle.spec_history.specs.Base.{Base}
use Rattle.spec_history.specs.declared.entry.Entry.{Entry}
use Rattle.spec_history.specs.declared.stamp.Stamp.{Stamp}
use Rattle.workload.specs.Counts.{count_of_ids, line, next_page_state}
use Rattle.workload.specs.Work.{ArePages, IsOutput}

module _ (answer : Base → List Entry → Call → ℤ → Reply) (added : Base → List Entry → Call → Stamp → List Entry) (base : Base) where
  abbrev Goes : List Entry → Reply → List Reply → Type 0
  Goes h r rs = ((state : List ℕ) × (next_page_state r ≡ Some state) × ArePages answer added base h state rs) ⊎ ((next_page_state r ≡ None) × (rs ≡ []))

  same_rest : (h : List Entry) (ps qs : List Reply) (r : Reply) → ((since : List ℕ) → ArePages answer added base h since ps → ArePages answer added base h since qs → ps ≡ qs) → Goes h r ps → Goes h r qs → ps ≡ qs
  same_rest h ps qs r same (inl a) (inl b) = same a.0 a.2 (subst (λ (state : List ℕ). ArePages answer added base h state qs) (same_Some b.0 a.0 (sym b.1 ∙ a.1)) b.2)
  same_rest h ps qs r same (inl a) (inr b) = let bad : Some a.0 ≡ None = sym a.1 ∙ b.0 in cc
  same_rest h ps qs r same (inr a) (inl b) = let bad : Some b.0 ≡ None = sym b.1 ∙ a.0 in cc
  same_rest h ps qs r same (inr a) (inr b) = a.1 ∙ sym b.1

  same_pages : (h : List Entry) (ps qs : List Reply) (since : List ℕ) → ArePages answer added base h since ps → ArePages answer added base h since qs → ps ≡ qs
  same_pages h [] qs since a b = absurd a
  same_pages h (p ∷ ps) [] since a b = absurd b
  same_pages h (p ∷ ps) (q ∷ qs) since a b =
      let same : p ≡ q = a.0 ∙ sym b.0 in
      ap₂ (λ (r : Reply) (rs : List Reply). r ∷ rs) same (same_rest h ps qs p (same_pages h ps qs) a.1 (subst (λ (r : Reply). Goes h r qs) (sym same) b.1))

  pub one_output : (h : List Entry) (number size : ℕ) (text other : List ℕ) → IsOutput answer added base h number size text → IsOutput answer added base h number size other → text ≡ other
  one_output h number size text other a b =
      let bookings = a.1.bookings ∙ sym b.1.bookings in
      let clashes = a.1.clashes ∙ sym b.1.clashes in
      let entries = a.1.entries ∙ sym b.1.entries in
      let pages = same_pages _ a.1.pages b.1.pages (codes "0-0") a.1.are_pages b.1.are_pages in
      let changed = a.1.changed ∙ (ap (λ (rs : List Reply). sum (map count_of_ids rs)) pages ∙ sym b.1.changed) in
      a.2 ∙ ((λ i. line (codes "bookings") (bookings i) ++ line (codes "clashes") (clashes i) ++ line (codes "entries") (entries i) ++ line (codes "changed") (changed i)) ∙ sym b.2)
