-- What comes of a run by what the input gives next.
use Rattle.std.proofs.Common.{◌≡◌, ◌+◌, ◌≤◌, ◌<◌, ◌++◌, ◌∷◌, [], ℕ, ℤ, List, Option, Global, Vec, inl, inr, length, refl, sym, ap, ◌∙◌, subst, arith}
use Rattle.std.proofs.lemmas.List.Elements.{All-nil}
use Rattle.std.specs.Io.KnownBytes.{Consumes, IsAtEnd}
use Rattle.io_edge.specs.Outside.{Rose, SinkShown, SourceShown}
use Rattle.jmapd_run.specs.declared.status.Status.{Status}
use Rattle.jmapd_run.specs.declared.status.Status.TheVariants as plain
use Rattle.journal_keeper.specs.Journals.{KeeperShown}
use Rattle.kept_run.proofs.EndLemmas.{Ends, beside, ended_by_keeper, ended_by_last, ended_by_memory, ended_by_write, ended_so, rose_later, standing_line}
use Rattle.kept_run.proofs.LoopLemmas.{Standing, standing_first, standing_took, with_source}
use Rattle.kept_run.specs.Lines.{Accounts}
use Rattle.kept_run.specs.Runs.{IsAnswerable, KeptSetting, RunsLines}
use Rattle.kept_run.specs.Steps.{BehindHow, IsDone, RunsLine, StoppedWith}
use Rattle.kept_run.specs.declared.line.LineEnd.{LineEnd}
use Rattle.kept_run.specs.declared.line.LineEnd.TheVariants.{KeepFault, NoMemory, WriteFault, Written}
use Rattle.kept_run.specs.declared.lines.TheConstants.{MAX_LINES}
use Rattle.kept_run.specs.declared.status.KeptDone.{KeptDone}
use Rattle.jmapd_run.specs.declared.kept_status.KeptStatus.TheVariants.{Plain}
use Rattle.line_edge.specs.Lines.{HasNoFeed, IsTooLong}
use Rattle.line_edge.specs.Reading.{GivesLine, TookMore}
use Rattle.line_edge.specs.declared.next.NextLine.TheVariants as next
use Rattle.line_edge.specs.declared.next.NextLine.TheVariants.{End, Last, Line, ReadFault, TooLong}
use Rattle.spec_core.specs.declared.limits.TheConstants.{MAX_SIZE_REQUEST}
use Rattle.spec_history.specs.MostTurns.{most_turns}
use Rattle.spec_site.specs.Configuration.{Site}

answerable_line : {line bytes : List ℕ} → line ≡ bytes → HasNoFeed line → length line ≤ MAX_SIZE_REQUEST → IsAnswerable bytes
answerable_line {line} is free short = subst IsAnswerable is (record { unbroken = free; short = short })

module _ {site : Site} {user : ℕ} {before : Accounts} {x y : KeptSetting} {now : Accounts} {rest : List ℕ} {count : ℕ} (st : Standing site user before x y now rest count) (s : SourceShown) (taken : List ℕ)
    (consumed : Consumes y.source.left s.left taken) (later : y.source.faults ≤ s.faults) where
  abbrev pub stands : Standing site user before x (with_source y s) now (rest ++ taken) count
  stands = standing_took st s taken consumed later

  -- ---- a line

  module _ (bytes rest' : List ℕ) (now' : Accounts) (clock : Option (ℕ → ℤ)) (k : SinkShown) (j : KeeperShown) (can : IsAnswerable bytes) where
    abbrev pub RunsTo : LineEnd → Type 0
    RunsTo end = RunsLine site user bytes now now' y.clock clock y.sink k y.keeper j end

    abbrev pub Ended : KeptDone → Type 0
    Ended done = RunsLines site user before x (beside (with_source y s) clock k j) done

    pub line_answered : rest ++ taken ≡ bytes ++ 10 ∷ rest' → RunsTo Written → Standing site user before x (beside (with_source y s) clock k j) now' rest' (count + 1)
    line_answered is run = standing_line stands bytes rest' now' clock k j is can run

    stopped_at : (done : KeptDone) → Ends stands bytes rest' → count < MAX_LINES → (end : LineEnd) → RunsTo end → StoppedWith end count done → Ended done
    stopped_at done ends most Written run is = absurd is
    stopped_at done ends most WriteFault run is = ended_by_write stands bytes rest' now' clock k j done ends can most run is
    stopped_at done ends most KeepFault run is = ended_by_keeper stands bytes rest' now' clock k j done ends can most run is
    stopped_at done ends most NoMemory run is = ended_by_memory stands bytes rest' now' clock k j done ends can most run is

    pub stopped_by_line : (done : KeptDone) → rest ++ taken ≡ bytes ++ 10 ∷ rest' → count < MAX_LINES → (end : LineEnd) → RunsTo end → StoppedWith end count done → Ended done
    stopped_by_line done is = stopped_at done (inl is)

    module _ (done : KeptDone) (is : rest ++ taken ≡ bytes) (some : 0 < length bytes) (empty : rest' ≡ []) (at_end : IsAtEnd s.left) (most : count < MAX_LINES) where
      pub stopped_by_last : (end : LineEnd) → RunsTo end → StoppedWith end count done → Ended done
      stopped_by_last = stopped_at done (inr (is, some, empty, at_end)) most

      pub last_answered : RunsTo Written → IsDone (Plain plain.Done) (count + 1) (count + 1) done → Ended done
      last_answered run ended = ended_by_last stands bytes rest' now' clock k j done (inr (is, some, empty, at_end)) can most run at_end empty ended

  -- ---- no line

  module _ (done : KeptDone) (most : count ≤ MAX_LINES) where
    abbrev pub EndedSo : Type 0
    EndedSo = RunsLines site user before x (with_source y s) done

    pub ended_at_end : rest ++ taken ≡ [] → IsAtEnd s.left → IsDone (Plain plain.Done) count count done → EndedSo
    ended_at_end empty at_end is = ended_so stands done (Plain plain.Done) is most (λ kept. (((refl, refl), kept, refl), empty, at_end))

    pub ended_too_long : IsTooLong MAX_SIZE_REQUEST (rest ++ taken) → IsDone (Plain plain.Cut) count count done → EndedSo
    ended_too_long long is = ended_so stands done (Plain plain.Cut) is most (λ kept. (((refl, refl), kept, refl), inl long))

    pub ended_by_source : HasNoFeed (rest ++ taken) → Rose y.source.faults s.faults → IsDone (Plain plain.ReadFault) count count done → EndedSo
    ended_by_source free rose is =
        ended_so stands done (Plain plain.ReadFault) is most (λ kept. (((refl, refl), kept, refl), free, rose_later x.source.faults y.source.faults s.faults st.source_later rose))

    pub ended_out_of_memory : IsDone (Plain plain.NoMemory) count count done → EndedSo
    ended_out_of_memory is = ended_so stands done (Plain plain.NoMemory) is most (λ kept. ((refl, refl), kept))

    -- behind the last line that may be answered
    pub ended_behind : (rest' : List ℕ) → rest' ≡ rest ++ taken → count ≡ MAX_LINES → (status : Status) → BehindHow y.source s rest' status → IsDone (Plain status) count count done → EndedSo
    ended_behind rest' grown last plain.Cut how is =
        ended_so stands done (Plain plain.Cut) is most (λ kept. (((refl, refl), kept, refl), inr (stands.number ∙ last, subst (λ (r : List ℕ). 0 < length r) grown how)))
    ended_behind rest' grown last plain.Done how is = ended_at_end (sym grown ∙ how.0) how.1 is
    ended_behind rest' grown last plain.ReadFault how is = ended_by_source (subst HasNoFeed (sym (sym grown ∙ how.0)) (All-nil (λ (b : ℕ). (b ≡ 10) → ⊥))) how.1 is
    ended_behind rest' grown last plain.NoMemory how is = ended_out_of_memory is
    ended_behind rest' grown last plain.Refused how is = absurd how
    ended_behind rest' grown last plain.Usage how is = absurd how
    ended_behind rest' grown last (plain.Config f i) how is = absurd how
    ended_behind rest' grown last plain.WriteFault how is = absurd how
    ended_behind rest' grown last plain.OpenFault how is = absurd how

-- ---- what the input gave next, and what came of it

pub standing_start : {site : Site} {user : ℕ} {before : Accounts} {x : KeptSetting} {rest : List ℕ} → rest ≡ [] → Standing site user before x x before rest 0
standing_start {site} {user} {before} {x} empty = subst (λ (r : List ℕ). Standing site user before x x before r 0) (sym empty) (standing_first site user before x)

module _ {site : Site} {user : ℕ} {before : Accounts} {x y : KeptSetting} {now : Accounts} {rest : List ℕ} {count : ℕ} where
  -- the desk may make as many calls as a request has
  pub may_call : Standing site user before x y now rest count → before.1 ≡ 0 → count < MAX_LINES → now.1 + 16 < most_turns
  may_call st fresh most = let turns = st.turns in omega (arith, turns, fresh, most)

  pub has_accounts : {sites : ℕ} → Standing site user before x y now rest count → length before.0 ≡ sites → length now.0 ≡ sites
  has_accounts st all = st.all ∙ all

  module _ {s : SourceShown} {rest' : List ℕ} where
    pub at_end : Standing site user before x y now rest count → count < MAX_LINES → GivesLine MAX_SIZE_REQUEST y.source s rest rest' End → {done : KeptDone} → IsDone (Plain plain.Done) count count done
        → RunsLines site user before x (with_source y s) done
    at_end st most g {done} is = ended_at_end st s g.taken g.consumed g.later done (omega (arith, most)) g.how.0 g.how.2 is

    pub too_long : Standing site user before x y now rest count → count < MAX_LINES → GivesLine MAX_SIZE_REQUEST y.source s rest rest' TooLong → {done : KeptDone} → IsDone (Plain plain.Cut) count count done
        → RunsLines site user before x (with_source y s) done
    too_long st most g {done} is = ended_too_long st s g.taken g.consumed g.later done (omega (arith, most)) g.how is

    pub read_fault : Standing site user before x y now rest count → count < MAX_LINES → GivesLine MAX_SIZE_REQUEST y.source s rest rest' ReadFault → {done : KeptDone} → IsDone (Plain plain.ReadFault) count count done
        → RunsLines site user before x (with_source y s) done
    read_fault st most g {done} is = ended_by_source st s g.taken g.consumed g.later done (omega (arith, most)) g.how.0 g.how.1 is

    pub no_memory : Standing site user before x y now rest count → count < MAX_LINES → GivesLine MAX_SIZE_REQUEST y.source s rest rest' next.NoMemory → {done : KeptDone} → IsDone (Plain plain.NoMemory) count count done
        → RunsLines site user before x (with_source y s) done
    no_memory st most g {done} is = ended_out_of_memory st s g.taken g.consumed g.later done (omega (arith, most)) is

    pub behind_all : Standing site user before x y now rest count → MAX_LINES ≤ count → count ≤ MAX_LINES → TookMore y.source s rest rest' → {status : Status} → BehindHow y.source s rest' status → {done : KeptDone}
        → IsDone (Plain status) MAX_LINES MAX_LINES done → RunsLines site user before x (with_source y s) done
    behind_all st least most t {status} how {done} is =
        let last : count ≡ MAX_LINES = omega (arith, least, most) in
        ended_behind st s t.taken t.consumed t.later done most rest' t.grown last status how (subst (λ (n : ℕ). IsDone (Plain status) n n done) (sym last) is)

    module _ {line : Vec ℕ Global} {bytes : List ℕ} {now' : Accounts} {clock : Option (ℕ → ℤ)} {k : SinkShown} {j : KeeperShown} where
      pub goes_on : Standing site user before x y now rest count → GivesLine MAX_SIZE_REQUEST y.source s rest rest' (Line line) → bytes ≡ line.items → RunsLine site user bytes now now' y.clock clock y.sink k y.keeper j Written
          → Standing site user before x (beside (with_source y s) clock k j) now' rest' (count + 1)
      goes_on st g is run =
          line_answered st s g.taken g.consumed g.later bytes rest' now' clock k j (answerable_line (sym is) g.how.1 g.how.2) (g.how.0 ∙ ap (λ (l : List ℕ). l ++ 10 ∷ rest') (sym is)) run

      pub stops : Standing site user before x y now rest count → count < MAX_LINES → GivesLine MAX_SIZE_REQUEST y.source s rest rest' (Line line) → bytes ≡ line.items → {end : LineEnd}
          → RunsLine site user bytes now now' y.clock clock y.sink k y.keeper j end → {done : KeptDone} → StoppedWith end count done → RunsLines site user before x (beside (with_source y s) clock k j) done
      stops st most g is {end} run {done} how =
          stopped_by_line st s g.taken g.consumed g.later bytes rest' now' clock k j (answerable_line (sym is) g.how.1 g.how.2) done (g.how.0 ∙ ap (λ (l : List ℕ). l ++ 10 ∷ rest') (sym is)) most end run how

      pub ends_behind_last : Standing site user before x y now rest count → count < MAX_LINES → GivesLine MAX_SIZE_REQUEST y.source s rest rest' (Last line) → bytes ≡ line.items
          → RunsLine site user bytes now now' y.clock clock y.sink k y.keeper j Written → {done : KeptDone} → IsDone (Plain plain.Done) (count + 1) (count + 1) done → RunsLines site user before x (beside (with_source y s) clock k j) done
      ends_behind_last st most g is run {done} ended =
          last_answered st s g.taken g.consumed g.later bytes rest' now' clock k j (answerable_line (sym is) g.how.1 g.how.2) done (g.how.0 ∙ sym is) (subst (λ (l : List ℕ). 0 < length l) (sym is) g.how.3) g.how.4 g.how.5 most run ended

      pub stops_at_last : Standing site user before x y now rest count → count < MAX_LINES → GivesLine MAX_SIZE_REQUEST y.source s rest rest' (Last line) → bytes ≡ line.items → {end : LineEnd}
          → RunsLine site user bytes now now' y.clock clock y.sink k y.keeper j end → {done : KeptDone} → StoppedWith end count done → RunsLines site user before x (beside (with_source y s) clock k j) done
      stops_at_last st most g is {end} run {done} how =
          stopped_by_last st s g.taken g.consumed g.later bytes rest' now' clock k j (answerable_line (sym is) g.how.1 g.how.2) done (g.how.0 ∙ sym is) (subst (λ (l : List ℕ). 0 < length l) (sym is) g.how.3) g.how.4 g.how.5 most end run how
