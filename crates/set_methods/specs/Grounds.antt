-- What the operations of a set are judged against.
use Rattle.std.specs.Prelude.{ℤ}
use Rattle.cal_model.specs.Operations.{Ground}
use Rattle.spec_history.specs.Base.{Base}

abbrev pub ground_at : Base → ℤ → Ground
ground_at base moment = record { base = base; moment = moment }
