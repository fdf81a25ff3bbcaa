use Rattle.std.proofs.Common.{◌≡◌, ◌&&◌, Bool, true, false, Some, refl, sym, ◌∙◌}
use Rattle.std.specs.Str.{bytes_eq}
use Rattle.std.proofs.lemmas.Bool.{not-true}
use Rattle.event_store.specs.EventsBase.{base_of}
use Rattle.spec_availability.specs.Availability.{availability_refusal}
use Rattle.spec_calls.specs.declared.call.AvailabilityArguments.{AvailabilityArguments}
use Rattle.spec_calls.specs.declared.call.MethodError.TheVariants.{InvalidArguments}
use Rattle.spec_history.specs.Base.{Base}
use Rattle.spec_site.specs.TimeZones.{has_zone}
use Rattle.availability_method.proofs.answer.availability.Goals as goal
use Rattle.availability_method.proofs.answer.availability.Goals.{then-ne-via-then-ne, then-ne-via-else-ne+then-not-has}

not_all : (a b z : Bool) → z ≡ false → (a && (b && z)) ≡ false
not_all true true z h = h
not_all true false z h = refl
not_all false b z h = refl

-- another principal, and a zone that there isn't
other_id : (base : Base) (q : AvailabilityArguments) → bytes_eq q.id base.account_id ≡ false → availability_refusal base q ≡ Some InvalidArguments
other_id base q h = rw h refl

no_zone : (base : Base) (q : AvailabilityArguments) → has_zone base.zones q.time_zone ≡ false → availability_refusal base q ≡ Some InvalidArguments
no_zone base q h = rw (not_all (bytes_eq q.id base.account_id) _ _ h) refl

pub returns-then-ne : goal.returns-then-ne
returns-then-ne c =
    let base = base_of c.args.events.now in
    let q = c.args.arguments.now in
    elim c.then-ne.branch [
      | then-ne-via-then-ne w ↦ other_id base q (rw (c.as_str.ensures, c.as_str-2.ensures) at (not-true _ (sym c.ne.ensures ∙ w.if-ne.true)))
      | then-ne-via-else-ne+then-not-has w ↦ no_zone base q (sym w.has.ensures ∙ w.if-not-has.true)
    ]

pub response-requires : goal.response-requires
response-requires c = rw c.deref-2.ensures.value c.in_ok-periods.ensures.years
