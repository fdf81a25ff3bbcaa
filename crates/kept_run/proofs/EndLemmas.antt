-- One line more, and the ends of a run.
use Rattle.std.proofs.Common.{◌≡◌, ◌+◌, ◌*◌, ◌≤◌, ◌<◌, ◌++◌, ◌∷◌, [], ℕ, ℤ, List, Option, inl, inr, length, length-append, take, refl, sym, ap, ◌∙◌, subst, arith, append-nil}
use Rattle.std.proofs.lemmas.List.{map-append}
use Rattle.std.proofs.lemmas.List.Elements.{All-push}
use Rattle.std.specs.Io.KnownBytes.{IsAtEnd}
use Rattle.std.specs.Prelude.{All, ◌⊎◌}
use Rattle.account_desk.specs.SoleDesk.{shown_of}
use Rattle.io_edge.proofs.OutsideLemmas.{Grows-trans}
use Rattle.io_edge.specs.Outside.{Grows, Rose, SinkShown, Ticks}
use Rattle.jmapd_run.specs.declared.status.Status.TheVariants.{Done, NoMemory, WriteFault}
use Rattle.journal_keeper.specs.Journals.{FailsToKeep, KeeperShown, Kept}
use Rattle.spec_connection.proofs.InOrder.{ticked_join, ticked_one}
use Rattle.kept_run.proofs.LoopLemmas.{Standing, answered_more, bytes_of, feeds_more, left_more, moments_of, more_join, responses_more, texts_more}
use Rattle.kept_run.proofs.TextLemmas.{same_count}
use Rattle.kept_run.specs.Lines.{Accounts, AreAnsweredLines, HasMore, IsAnsweredLine, Line, all_texts, left_by, line_texts, response, responses}
use Rattle.kept_run.specs.Runs.{AllKept, HoldsLines, IsAnswerable, KeptEnds, KeptSetting, RunsLines}
use Rattle.kept_run.specs.Steps.{IsDone, IsRun, RunsLine}
use Rattle.kept_run.specs.declared.line.LineEnd.TheVariants as line
use Rattle.kept_run.specs.declared.lines.TheConstants.{MAX_LINES}
use Rattle.kept_run.specs.declared.status.KeptDone.{KeptDone}
use Rattle.jmapd_run.specs.declared.kept_status.KeptStatus.{KeptStatus}
use Rattle.jmapd_run.specs.declared.kept_status.KeptStatus.TheVariants.{Plain, KeepFault}
use Rattle.line_edge.specs.Lines.{with_feeds}
use Rattle.spec_batch.proofs.Chains.{turns_counted}
use Rattle.spec_connection.specs.Answered.{Ticked}
use Rattle.spec_site.specs.Configuration.{Site}

-- ---- lists

bytes_more : (ls : List Line) (l : Line) (bytes : List ℕ) → l.bytes ≡ bytes → bytes_of ls ++ bytes ∷ [] ≡ bytes_of (ls ++ l ∷ [])
bytes_more ls l bytes is = ap (λ (b : List ℕ). bytes_of ls ++ b ∷ []) (sym is) ∙ sym (map-append (λ (m : Line). m.bytes) ls (l ∷ []))

moments_more : (ls : List Line) (l : Line) → moments_of (ls ++ l ∷ []) ≡ moments_of ls ++ l.moment ∷ []
moments_more ls l = map-append (λ (m : Line). m.moment) ls (l ∷ [])

one_more : (ls : List Line) (l : Line) (count : ℕ) → length ls ≡ count → length (ls ++ l ∷ []) ≡ count + 1
one_more ls l count is = length-append ls (l ∷ []) ∙ ap (λ (n : ℕ). n + 1) is

abbrev pub beside : KeptSetting → Option (ℕ → ℤ) → SinkShown → KeeperShown → KeptSetting
beside y clock k j = record { source = y.source; sink = k; clock = clock; keeper = j }

pub rose_later : (f g h : ℕ) → f ≤ g → Rose g h → Rose f h
rose_later f g h e r = omega (arith, e, r)

module _ {site : Site} {user : ℕ} {before : Accounts} {x y : KeptSetting} {now : Accounts} {rest : List ℕ} {count : ℕ} (st : Standing site user before x y now rest count) where
  -- ---- a line that was answered

  module _ {bytes : List ℕ} {now' : Accounts} {moment : ℤ} (r : IsRun site user bytes now now' moment) where
    answered_here : IsAnsweredLine site user (left_by before st.lines) r.line
    answered_here = subst (λ (a : Accounts). IsAnsweredLine site user a r.line) (sym st.left) r.answered

    pub lines_answered : AreAnsweredLines site user before (st.lines ++ r.line ∷ [])
    lines_answered = answered_more site user before st.lines r.line st.answered answered_here

    lines_answerable : IsAnswerable bytes → All (λ (l : Line). IsAnswerable l.bytes) (st.lines ++ r.line ∷ [])
    lines_answerable can = All-push (λ (l : Line). IsAnswerable l.bytes) st.lines r.line st.answerable (subst IsAnswerable (sym r.is) can)

    lines_ticked : (clock : Option (ℕ → ℤ)) → Ticks y.clock clock moment → Ticked x.clock clock (moments_of (st.lines ++ r.line ∷ []))
    lines_ticked clock ticks =
        subst (Ticked x.clock clock) (sym (moments_more st.lines r.line))
        (ticked_join x.clock y.clock clock (moments_of st.lines) (r.line.moment ∷ []) st.ticked (ticked_one y.clock clock r.line.moment (subst (Ticks y.clock clock) (sym r.at) ticks)))

    lines_kept : (told : Option Kept) → HasMore y.keeper.told told (line_texts site now r.line) → HasMore x.keeper.told told (all_texts site before (st.lines ++ r.line ∷ []))
    lines_kept told more =
        subst (HasMore x.keeper.told told) (sym (texts_more site user before st.lines r.line))
        (more_join x.keeper.told y.keeper.told told (all_texts site before st.lines) (line_texts site (left_by before st.lines) r.line) st.kept
        (subst (λ (a : Accounts). HasMore y.keeper.told told (line_texts site a r.line)) (sym st.left) more))

    few_turns : now'.1 ≤ before.1 + 16 * (count + 1)
    few_turns =
        let made = turns_counted (shown_of now) (shown_of r.line.accounts) r.line.made r.answered.chain in
        let few = r.answered.few in
        let is = ap (λ (a : Accounts). a.1) r.left in
        omega (arith, st.turns, made, few, is)

    all_there : length now'.0 ≡ length before.0
    all_there = ap (λ (a : Accounts). length a.0) (sym r.left) ∙ (same_count now r.line.accounts r.line.made r.answered.chain ∙ st.all)

  pub standing_line : (bytes rest' : List ℕ) (now' : Accounts) (clock : Option (ℕ → ℤ)) (k : SinkShown) (j : KeeperShown) → rest ≡ bytes ++ 10 ∷ rest' → IsAnswerable bytes
      → RunsLine site user bytes now now' y.clock clock y.sink k y.keeper j line.Written → Standing site user before x (beside y clock k j) now' rest' (count + 1)
  standing_line bytes rest' now' clock k j is can run =
      let r = run.how.0 in
      record {
        taken = st.taken;
        lines = st.lines ++ r.line ∷ [];
        consumed = st.consumed;
        parts = st.parts ∙ (ap (λ (t : List ℕ). with_feeds (bytes_of st.lines) ++ t) is ∙ (feeds_more (bytes_of st.lines) bytes rest'
            ∙ ap (λ (ls : List (List ℕ)). with_feeds ls ++ rest') (bytes_more st.lines r.line bytes r.is)));
        answerable = lines_answerable r can;
        answered = lines_answered r;
        left = left_more before st.lines r.line ∙ r.left;
        ticked = lines_ticked r clock run.ticked;
        number = one_more st.lines r.line count st.number;
        kept = lines_kept r j.told run.how.1;
        written = subst (Grows x.sink.holds k.holds) (sym (responses_more st.lines r.line)) (Grows-trans x.sink.holds y.sink.holds k.holds (responses st.lines) (response r.line) st.written run.how.2);
        source_later = st.source_later;
        sink_later = omega (arith, st.sink_later, run.sink_later);
        keeper_later = omega (arith, st.keeper_later, run.keeper_later);
        undamaged = run.undamaged ∙ st.undamaged;
        turns = few_turns r;
        all = all_there r;
      }

  -- ---- ends between lines

  kept_so : AllKept site user before x y st.lines [] [] rest []
  kept_so = subst (λ (ls : List Line). HasMore x.keeper.told y.keeper.told (all_texts site before ls)) (sym (append-nil st.lines)) st.kept

  -- the run ended so behind these lines
  pub ended_so : (done : KeptDone) (status : KeptStatus) → IsDone status count count done → count ≤ MAX_LINES
      → (AllKept site user before x y st.lines [] [] rest [] → KeptEnds site user before x y st.lines [] [] rest [] status) → RunsLines site user before x y done
  ended_so done status is most how =
      let none = append-nil st.lines in
      let moments : moments_of (st.lines ++ []) ++ [] ≡ moments_of st.lines = append-nil (moments_of (st.lines ++ [])) ∙ ap moments_of none in
      record {
        taken = st.taken;
        written = st.lines;
        unwritten = [];
        tail = [];
        behind = rest;
        consumed = st.consumed;
        holds = inl (st.parts ∙ ap (λ (ls : List Line). with_feeds (bytes_of ls) ++ rest) (sym none));
        answerable = subst (All (λ (l : Line). IsAnswerable l.bytes)) (sym none) st.answerable;
        answered = subst (AreAnsweredLines site user before) (sym none) st.answered;
        more = [];
        ticked = subst (Ticked x.clock y.clock) (sym moments) st.ticked;
        few = omega arith;
        count_written = st.number ∙ sym is.written;
        count_kept = ap length none ∙ (st.number ∙ sym is.kept);
        one = omega arith;
        most = omega (arith, most, is.kept);
        output = subst (Grows x.sink.holds y.sink.holds) (sym (append-nil (responses st.lines))) st.written;
        source_later = st.source_later;
        sink_later = st.sink_later;
        keeper_later = st.keeper_later;
        undamaged = st.undamaged;
        how = subst (KeptEnds site user before x y st.lines [] [] rest []) (sym is.status) (how kept_so);
      }

  -- ---- ends by a line, which stands at the front of what was taken

  -- where the line ends
  abbrev pub Ends : List ℕ → List ℕ → Type 0
  Ends bytes rest' = (rest ≡ bytes ++ 10 ∷ rest') ⊎ ((rest ≡ bytes) × (0 < length bytes) × (rest' ≡ []) × IsAtEnd y.source.left)

  held : (bytes rest' : List ℕ) (l : Line) → l.bytes ≡ bytes → Ends bytes rest' → HoldsLines y.source.left st.taken (bytes_of (st.lines ++ l ∷ [])) rest'
  held bytes rest' l is (inl e) =
      inl (st.parts ∙ (ap (λ (t : List ℕ). with_feeds (bytes_of st.lines) ++ t) e ∙ (feeds_more (bytes_of st.lines) bytes rest' ∙ ap (λ (ls : List (List ℕ)). with_feeds ls ++ rest') (bytes_more st.lines l bytes is))))
  held bytes rest' l is (inr e) = inr (bytes_of st.lines, bytes, sym (bytes_more st.lines l bytes is), st.parts ∙ ap (λ (t : List ℕ). with_feeds (bytes_of st.lines) ++ t) e.0, e.1, e.2, e.3)

  -- it is the first of what was taken behind the lines before it
  next_held : (bytes rest' : List ℕ) (l : Line) → l.bytes ≡ bytes → Ends bytes rest' → HoldsLines y.source.left rest (l.bytes ∷ []) rest'
  next_held bytes rest' l is (inl e) = inl (e ∙ (feeds_more [] bytes rest' ∙ ap (λ (b : List ℕ). with_feeds (b ∷ []) ++ rest') (sym is)))
  next_held bytes rest' l is (inr e) = inr ([], bytes, ap (λ (b : List ℕ). b ∷ []) is, e.0, e.1, e.2, e.3)

  module _ (bytes rest' : List ℕ) (now' : Accounts) (clock : Option (ℕ → ℤ)) (k : SinkShown) (j : KeeperShown) (done : KeptDone) (ends : Ends bytes rest') (can : IsAnswerable bytes) (most : count < MAX_LINES) where
    abbrev pub z : KeptSetting
    z = beside y clock k j

    -- the last line was answered
    pub ended_by_last : RunsLine site user bytes now now' y.clock clock y.sink k y.keeper j line.Written → IsAtEnd y.source.left → rest' ≡ [] → IsDone (Plain Done) (count + 1) (count + 1) done → RunsLines site user before x z done
    ended_by_last run at_end empty is =
        let r = run.how.0 in
        let ls = st.lines ++ r.line ∷ [] in
        let none = append-nil ls in
        let moments : moments_of (ls ++ []) ++ [] ≡ moments_of ls = append-nil (moments_of (ls ++ [])) ∙ ap moments_of none in
        let kept : HasMore x.keeper.told j.told (all_texts site before (ls ++ [])) =
        subst (λ (m : List Line). HasMore x.keeper.told j.told (all_texts site before m)) (sym none) (lines_kept r j.told run.how.1) in
        let number = one_more st.lines r.line count st.number in
        record {
          taken = st.taken;
          written = ls;
          unwritten = [];
          tail = [];
          behind = rest';
          consumed = st.consumed;
          holds = subst (λ (m : List Line). HoldsLines y.source.left st.taken (bytes_of m) rest') (sym none) (held bytes rest' r.line r.is ends);
          answerable = subst (All (λ (l : Line). IsAnswerable l.bytes)) (sym none) (lines_answerable r can);
          answered = subst (AreAnsweredLines site user before) (sym none) (lines_answered r);
          more = [];
          ticked = subst (Ticked x.clock clock) (sym moments) (lines_ticked r clock run.ticked);
          few = omega arith;
          count_written = number ∙ sym is.written;
          count_kept = ap length none ∙ (number ∙ sym is.kept);
          one = omega arith;
          most = omega (arith, most, is.kept);
          output = subst (Grows x.sink.holds k.holds) (sym (append-nil (responses ls) ∙ responses_more st.lines r.line))
              (Grows-trans x.sink.holds y.sink.holds k.holds (responses st.lines) (response r.line) st.written run.how.2);
          source_later = st.source_later;
          sink_later = omega (arith, st.sink_later, run.sink_later);
          keeper_later = omega (arith, st.keeper_later, run.keeper_later);
          undamaged = run.undamaged ∙ st.undamaged;
          how = subst (KeptEnds site user before x z ls [] [] rest' []) (sym is.status) (((refl, refl), kept, refl), empty, at_end);
        }

    -- the line was kept, and its response wasn't written whole
    pub ended_by_write : RunsLine site user bytes now now' y.clock clock y.sink k y.keeper j line.WriteFault → IsDone (Plain WriteFault) (count + 1) count done → RunsLines site user before x z done
    ended_by_write run is =
        let r = run.how.0 in
        let l = r.line in
        let part : List ℕ = take run.how.2.0 (response l) in
        record {
          taken = st.taken;
          written = st.lines;
          unwritten = l ∷ [];
          tail = part;
          behind = rest';
          consumed = st.consumed;
          holds = held bytes rest' l r.is ends;
          answerable = lines_answerable r can;
          answered = lines_answered r;
          more = [];
          ticked = subst (Ticked x.clock clock) (sym (append-nil (moments_of (st.lines ++ l ∷ [])))) (lines_ticked r clock run.ticked);
          few = omega arith;
          count_written = st.number ∙ sym is.written;
          count_kept = one_more st.lines l count st.number ∙ sym is.kept;
          one = omega arith;
          most = omega (arith, most, is.kept);
          output = Grows-trans x.sink.holds y.sink.holds k.holds (responses st.lines) part st.written run.how.2.2;
          source_later = st.source_later;
          sink_later = omega (arith, st.sink_later, run.sink_later);
          keeper_later = omega (arith, st.keeper_later, run.keeper_later);
          undamaged = run.undamaged ∙ st.undamaged;
          how = subst (KeptEnds site user before x z st.lines (l ∷ []) part rest' []) (sym is.status)
              (lines_kept r j.told run.how.1, refl, rose_later x.sink.faults y.sink.faults k.faults st.sink_later run.how.3, l, refl, (run.how.2.0, run.how.2.1, refl));
        }

    -- the line wasn't kept: what was taken stands behind the lines before it
    ended_before : (status : KeptStatus) → IsDone status count count done → (moment : ℤ) → Ticks y.clock clock moment → k ≡ y.sink → y.keeper.faults ≤ j.faults → j.damages ≡ y.keeper.damages
        → KeptEnds site user before x z st.lines [] [] rest (moment ∷ []) status → RunsLines site user before x z done
    ended_before status is moment ticks same later undamaged how =
        let none = append-nil st.lines in
        record {
          taken = st.taken;
          written = st.lines;
          unwritten = [];
          tail = [];
          behind = rest;
          consumed = st.consumed;
          holds = inl (st.parts ∙ ap (λ (ls : List Line). with_feeds (bytes_of ls) ++ rest) (sym none));
          answerable = subst (All (λ (l : Line). IsAnswerable l.bytes)) (sym none) st.answerable;
          answered = subst (AreAnsweredLines site user before) (sym none) st.answered;
          more = moment ∷ [];
          ticked = subst (λ (ls : List Line). Ticked x.clock clock (moments_of ls ++ moment ∷ [])) (sym none)
              (ticked_join x.clock y.clock clock (moments_of st.lines) (moment ∷ []) st.ticked (ticked_one y.clock clock moment ticks));
          few = omega arith;
          count_written = st.number ∙ sym is.written;
          count_kept = ap length none ∙ (st.number ∙ sym is.kept);
          one = omega arith;
          most = omega (arith, most, is.kept);
          output = subst (λ (s : SinkShown). Grows x.sink.holds s.holds (responses st.lines ++ [])) (sym same) (subst (Grows x.sink.holds y.sink.holds) (sym (append-nil (responses st.lines))) st.written);
          source_later = st.source_later;
          sink_later = let e = ap (λ (s : SinkShown). s.faults) same in omega (arith, st.sink_later, e);
          keeper_later = omega (arith, st.keeper_later, later);
          undamaged = undamaged ∙ st.undamaged;
          how = subst (KeptEnds site user before x z st.lines [] [] rest (moment ∷ [])) (sym is.status) how;
        }

    pub ended_by_memory : RunsLine site user bytes now now' y.clock clock y.sink k y.keeper j line.NoMemory → IsDone (Plain NoMemory) count count done → RunsLines site user before x z done
    ended_by_memory run is =
        ended_before (Plain NoMemory) is run.moment run.ticked run.how.1 run.keeper_later run.undamaged
        ((refl, refl), subst (λ (t : Option Kept). HasMore x.keeper.told t (all_texts site before (st.lines ++ []))) (sym run.how.0) kept_so)

    pub ended_by_keeper : RunsLine site user bytes now now' y.clock clock y.sink k y.keeper j line.KeepFault → IsDone KeepFault count count done → RunsLines site user before x z done
    ended_by_keeper run is =
        let r = run.how.0 in
        ended_before KeepFault is run.moment run.ticked run.how.3 run.keeper_later run.undamaged (
          (refl, refl),
          rose_later x.keeper.faults y.keeper.faults j.faults st.keeper_later run.how.2,
          r.line,
          record {
            rest = rest';
            next = next_held bytes rest' r.line r.is ends;
            answerable = subst IsAnswerable (sym r.is) can;
            read = ap (λ (m : ℤ). m ∷ []) (sym r.at);
            answered = answered_here r;
            told = y.keeper.told;
            kept = st.kept;
            fails = subst (λ (a : Accounts). FailsToKeep y.keeper.told j.told (line_texts site a r.line)) (sym st.left) run.how.1;
          },
        )
