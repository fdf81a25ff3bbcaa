-- Why the track has the days of the rule's set.
use Rattle.std.proofs.Common.{refl, rules, ◌∙◌, FitsSigned, w64}
use Rattle.std.proofs.lemmas.Int.{to_z-of_z}
use Rattle.residue_clash.proofs.tracks.track_of.Goals as goal

pub returns : goal.returns
returns c = let f : FitsSigned w64 c.day_of.result = search rules in record {
  rule = refl;
  first = to_z-of_z w64 c.day_of.result f ∙ c.day_of.ensures.value;
  pushed = refl;
  end = c.requires.last;
}
