use Rattle.std.proofs.Common.{◌+◌, inl, refl, rules, ◌≡◌, ◌≤◌, ◌<◌, ◌∙◌, ℕ, List, length, min, sym, ap, arith}
use Rattle.std.proofs.lemmas.List.{length-take-le}
use Rattle.spec_http.specs.Heads.{head_end, head_length, unended}
use Rattle.http_edge.specs.Reading.{StopCause}
use Rattle.http_edge.proofs.Ends.{prefix_same, prefix_end, prefix_full, prefix_open, open_none}
use Rattle.http_edge.proofs.Searching.{searched_none}
use Rattle.http_edge.proofs.Taking.{asked_for, searched_still, stop_earlier, took_more, took_none}
use Rattle.spec_http.specs.declared.limits.TheConstants.{PIECE}
use Rattle.http_edge.proofs.next.find_head.Goals as goal

pub loop-size-init : goal.loop-size-init
loop-size-init g c = record {
  took = took_none (g.S.Source.shown c.args.source.now) c.args.kept.now;
  asked = inl (refl, refl);
  within = omega arith;
  few = omega arith;
  searched = searched_none;
  later = omega arith;
  once = omega arith;
}

pub returns-in-Ended-clause-end : goal.returns-in-Ended-clause-end
returns-in-Ended-clause-end g c =
    let len : c.min-prefix.result ≡ min (length c.loop-size.kept) 16384 = c.min-prefix.ensures ∙ ap (λ (l : List ℕ). min (length l) 16384) c.as_slice.ensures in
    let prefix = prefix_same c.loop-size.kept c.as_slice-in-loop-size.result.now c.min-prefix.result c.as_slice-in-loop-size.ensures len in
    prefix_end c.loop-size.kept c.in-Ended.size (ap head_length (sym prefix) ∙ c.in-Ended.ensures.finds.1)

pub returns-then-prefix-eq-MAX_HEAD-clause-end : goal.returns-then-prefix-eq-MAX_HEAD-clause-end
returns-then-prefix-eq-MAX_HEAD-clause-end g c =
    let len : c.min-prefix.result ≡ min (length c.loop-size.kept) 16384 = c.min-prefix.ensures ∙ ap (λ (l : List ℕ). min (length l) 16384) c.as_slice.ensures in
    let prefix = prefix_same c.loop-size.kept c.as_slice-in-loop-size.result.now c.min-prefix.result c.as_slice-in-loop-size.ensures len in
    let full : 16384 ≤ length c.loop-size.kept = omega (arith, len) in
    prefix_full c.loop-size.kept full (ap head_length (sym prefix) ∙ open_none _ c.in-Open.next c.in-Open.ensures.finds)

pub returns-in_err-take_more-clause-stop : goal.returns-in_err-take_more-clause-stop
returns-in_err-take_more-clause-stop g c =
    let len : c.min-prefix.result ≡ min (length c.loop-size.kept) 16384 = c.min-prefix.ensures ∙ ap (λ (l : List ℕ). min (length l) 16384) c.as_slice.ensures in
    let prefix = prefix_same c.loop-size.kept c.as_slice-in-loop-size.result.now c.min-prefix.result c.as_slice-in-loop-size.ensures len in
    let short : length c.loop-size.kept < 16384 = omega (arith, len) in
    let open_yet : head_end c.take_more.new.self ≡ unended = ap head_end c.in_err-take_more.ensures.stop.0 ∙ prefix_open c.loop-size.kept short (ap head_length (sym prefix) ∙ open_none _ c.in-Open.next c.in-Open.ensures.finds) in
    let cause : StopCause (g.S.Source.shown c.args.source.now) (g.S.Source.shown c.take_more.new.source) c.in_err-take_more.field-0.0 =
    stop_earlier (g.S.Source.shown c.args.source.now) (g.S.Source.shown c.loop-size.source) (g.S.Source.shown c.take_more.new.source) c.in_err-take_more.field-0.0 c.loop-size.invariant.took.later c.in_err-take_more.ensures.stop.1 in
    search (rules, open_yet, cause)

pub returns-in_err-take_more-clause-asked : goal.returns-in_err-take_more-clause-asked
returns-in_err-take_more-clause-asked g c =
    let len : c.min-prefix.result ≡ min (length c.loop-size.kept) 16384 = c.min-prefix.ensures ∙ ap (λ (l : List ℕ). min (length l) 16384) c.as_slice.ensures in
    let prefix = prefix_same c.loop-size.kept c.as_slice-in-loop-size.result.now c.min-prefix.result c.as_slice-in-loop-size.ensures len in
    let short : length c.loop-size.kept < 16384 = omega (arith, len) in
    let open_yet : head_end c.loop-size.kept ≡ unended = prefix_open c.loop-size.kept short (ap head_length (sym prefix) ∙ open_none _ c.in-Open.next c.in-Open.ensures.finds) in
    let few : length c.take_more.new.self ≤ length c.loop-size.kept + 16384 = omega (arith, c.in_err-take_more.ensures.most) in
    asked_for (λ (bytes : List ℕ). head_end bytes ≡ unended) PIECE c.loop-size.invariant.took c.in_err-take_more.ensures.took few open_yet

pub loop-size-preserved : goal.loop-size-preserved
loop-size-preserved g c =
    let len : c.min-prefix.result ≡ min (length c.loop-size.kept) 16384 = c.min-prefix.ensures ∙ ap (λ (l : List ℕ). min (length l) 16384) c.as_slice.ensures in
    let prefix = prefix_same c.loop-size.kept c.as_slice-in-loop-size.result.now c.min-prefix.result c.as_slice-in-loop-size.ensures len in
    let short : length c.loop-size.kept < 16384 = omega (arith, len) in
    let open_yet : head_end c.loop-size.kept ≡ unended = prefix_open c.loop-size.kept short (ap head_length (sym prefix) ∙ open_none _ c.in-Open.next c.in-Open.ensures.finds) in
    let few : length c.take_more.new.self ≤ length c.loop-size.kept + 16384 = omega (arith, c.in_ok-take_more.ensures.most) in
    let more = c.in_ok-take_more.ensures.more in
    let later = c.loop-size.invariant.later in
    let once = c.loop-size.invariant.once in
    let counted = c.in-Open.ensures.once in
    let slice : length c.as_slice-in-loop-size.result.now ≡ length c.loop-size.kept = ap length c.as_slice-in-loop-size.ensures in
    let size = length-take-le c.min-prefix.result c.as_slice-in-loop-size.result.now (omega (arith, len, slice)) in
    record {
      took = took_more c.loop-size.invariant.took c.in_ok-take_more.ensures.took;
      asked = asked_for (λ (bytes : List ℕ). head_end bytes ≡ unended) PIECE c.loop-size.invariant.took c.in_ok-take_more.ensures.took few open_yet;
      within = omega (arith, len, more);
      few = omega (arith, len);
      searched = searched_still c.loop-size.kept c.as_slice-in-loop-size.result.now c.take_more.new.self c.min-prefix.result c.in-Open.next c.as_slice-in-loop-size.ensures c.in_ok-take_more.ensures.took (omega (arith, len)) c.in-Open.ensures.finds;
      later = omega (arith, later, counted);
      once = omega (arith, once, counted, size);
    }
