use Rattle.std.proofs.Common.{◌∙◌, ap}
use Rattle.availability.specs.Merging.{are_inside}
use Rattle.availability.proofs.Joining.{runs_inside}
use Rattle.availability.proofs.busy.Busy.join.Goals as goal

pub invariant_of-self-2 : goal.invariant_of-self-2
invariant_of-self-2 c =
    let s = c.args.self.now in
    record {
      inside = runs_inside s.window c.in_ok-runs.runs.items (c.in_ok-runs.ensures.runs s.window (ap (λ v. are_inside s.window v.items) c.replace-spans.ensures.value ∙ s.inside));
      near = s.near;
    }
