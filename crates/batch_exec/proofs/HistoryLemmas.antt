-- What a request comes to in histories, at each of its ends.
use Rattle.std.proofs.Common.{◌≡◌, ℤ, ◌+◌, ◌≤◌, List, [], ◌++◌, Ok, Err, inl, inr, map, ap, ◌∙◌, sym, subst, append-nil, arith}
use Rattle.spec_batch.proofs.CallCounts.{few_asked, few_calls, few_stopped}
use Rattle.spec_batch.proofs.Chains.{nothing_done, stop_adds_nothing, summaries_join, summary, turns_counted}
use Rattle.spec_batch.specs.Batch.{IsBegun, IsStopped, IsUntouched, NextMeans, Step, made_in}
use Rattle.spec_batch.specs.Chain.{Made, Shown, Summary, front_of}
use Rattle.spec_batch.specs.declared.desk.DeskError.{DeskError}
use Rattle.spec_batch.specs.declared.desk.DeskError.TheVariants as reason
use Rattle.spec_batch.specs.declared.desk.Front.{Front}
use Rattle.spec_batch.specs.declared.request.BatchError.TheVariants as batch
use Rattle.spec_batch.specs.declared.request.Invocation.{Invocation}
use Rattle.spec_core.specs.declared.limits.TheConstants.{MAX_CALLS_IN_REQUEST}
use Rattle.spec_core.specs.declared.user.User.{User}
use Rattle.spec_json.specs.Data.{Data}
use Rattle.batch_exec.specs.Histories.{RequestsStandInHistories}

module _ (user : User) (moment : ℤ) (d : Data) (fronts fronts' : List Front) (s t : Shown) where
  abbrev Stands : Type 0
  Stands = (made : List Made) × Summary s t made × (fronts' ≡ fronts ++ map front_of made) × (t.turns ≤ s.turns + MAX_CALLS_IN_REQUEST)

  untouched : IsUntouched user moment d fronts fronts' s t → Stands
  untouched u = (
    [],
    subst (λ (x : Shown). Summary s x []) (sym u.0) (nothing_done s),
    u.1 ∙ sym (append-nil fronts),
    (let same = ap (λ (x : Shown). x.turns) u.0 in omega arith),
  )

  answered : (steps : List Step) (rest : List Invocation) → IsBegun user moment d fronts fronts' s t steps rest → Stands
  answered steps rest b = (
    made_in steps,
    summary s t (made_in steps) b.progress.chain,
    b.progress.fronts_grew,
    (
        let few = few_asked d b.request b.is_asked in
        let made = few_calls b.request steps rest b.progress.invoked in
        let turns = turns_counted s t (made_in steps) b.progress.chain in
        omega arith
        ),
  )

  stopped : (e : DeskError) → IsStopped user moment d fronts fronts' s t e → Stands
  stopped e b =
      let steps = b.0 in
      let rest = b.1 in
      let u = b.2 in
      let begun = b.3 in
      let these = NextMeans user begun.request moment steps rest in
      let chain = begun.progress.chain in
      let all = summaries_join s u t (made_in steps) [] (summary s u (made_in steps) chain) (stop_adds_nothing these moment e u t b.4) in (
        made_in steps,
        subst (Summary s t) (append-nil (made_in steps)) all,
        begun.progress.fronts_grew,
        (
            let few = few_asked d begun.request begun.is_asked in
            let more = few_stopped user begun.request moment steps u t rest e begun.progress.invoked b.4 in
            let turns = turns_counted s u (made_in steps) chain in
            omega arith
            ),
      )

pub requests_stand : RequestsStandInHistories
requests_stand user moment d fronts fronts' s t (Ok tree) b = answered user moment d fronts fronts' s t b.0 [] b.1
requests_stand user moment d fronts fronts' s t (Err (batch.Refused e)) b = untouched user moment d fronts fronts' s t b.1
requests_stand user moment d fronts fronts' s t (Err batch.PassSpent) b = stopped user moment d fronts fronts' s t reason.PassSpent b
requests_stand user moment d fronts fronts' s t (Err batch.NoMemory) (inl u) = untouched user moment d fronts fronts' s t u
requests_stand user moment d fronts fronts' s t (Err batch.NoMemory) (inr b) = stopped user moment d fronts fronts' s t reason.NoMemory b
