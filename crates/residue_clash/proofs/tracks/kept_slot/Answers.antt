-- Why what is kept of a rule tells its track.
use Rattle.std.proofs.Common.{length, refl, false}
use Rattle.std.proofs.lemmas.Option.{slice_get_read}
use Rattle.residue_clash.specs.RuleMaps.{residue_of}
use Rattle.residue_clash.proofs.Slots.{kept_at, kept_within}
use Rattle.residue_clash.proofs.tracks.kept_slot.Goals as goal

pub track_of-requires-clause-last : goal.track_of-requires-clause-last
track_of-requires-clause-last c =
    let within = kept_within c.args.series.now c.args.k c.args.kept.now c.in-Some.kept c.in-Some.is c.requires in
    let there = rw c.items.ensures at (slice_get_read c.items.result.now (length c.items.result.now) c.args.k c.index-items-k.result refl (rw c.items.ensures within) c.index-items-k.is) in
    let kept = kept_at c.args.series.now c.args.k c.args.kept.now c.in-Some.kept c.index-items-k.result c.in-Some.is c.requires there in
    kept.end false

pub track_of-requires-clause-map : goal.track_of-requires-clause-map
track_of-requires-clause-map c =
    let within = kept_within c.args.series.now c.args.k c.args.kept.now c.in-Some.kept c.in-Some.is c.requires in
    let there = rw c.items.ensures at (slice_get_read c.items.result.now (length c.items.result.now) c.args.k c.index-items-k.result refl (rw c.items.ensures within) c.index-items-k.is) in
    let kept = kept_at c.args.series.now c.args.k c.args.kept.now c.in-Some.kept c.index-items-k.result c.in-Some.is c.requires there in
    c.words_of-map.ensures (residue_of false c.index-items-k.result) kept.own

pub returns-in-Some : goal.returns-in-Some
returns-in-Some c =
    let within = kept_within c.args.series.now c.args.k c.args.kept.now c.in-Some.kept c.in-Some.is c.requires in
    let there = rw c.items.ensures at (slice_get_read c.items.result.now (length c.items.result.now) c.args.k c.index-items-k.result refl (rw c.items.ensures within) c.index-items-k.is) in
    (c.index-items-k.result, (there, c.track_of.ensures))
