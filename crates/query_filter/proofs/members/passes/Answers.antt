use Rattle.std.proofs.Common.{inl, inr, ⊎_elim, refl}
use Rattle.spec_filters.specs.Members.{condition_table}
use Rattle.property_table.proofs.TableLemmas.{unlike}
use Rattle.query_filter.proofs.members.passes.Goals as goal

pub returns-in-after : goal.returns-in-after
unfolding condition_table
returns-in-after c = ⊎_elim (λ e. rw e c.is_start.ensures) (λ e. rw e c.is_start.ensures) c.in-after.is

pub returns-in-title : goal.returns-in-title
unfolding condition_table
returns-in-title c = elim c.in-title.is [
  | inl e ↦ rw e c.is_text-in-title.ensures
  | inr x ↦ elim x [
    | inl e ↦ rw e c.is_text-in-title.ensures
    | inr y ↦ elim y [
      | inl e ↦ rw e c.is_text-in-title.ensures
      | inr z ↦ ⊎_elim (λ e. rw e c.is_text-in-title.ensures) (λ e. rw e c.is_text-in-title.ensures) z
    ]
  ]
]

pub returns-in_default : goal.returns-in_default
unfolding condition_table
returns-in_default c =
    let d = c.in_default in
    rw (unlike d.not-inCalendar, unlike d.not-after, unlike d.not-before, unlike d.not-title, unlike d.not-text, unlike d.not-uid, unlike d.not-participant, unlike d.not-participationStatus) refl
