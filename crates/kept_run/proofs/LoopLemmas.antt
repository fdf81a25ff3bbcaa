-- The lines of an input, one after the other.
use Rattle.std.proofs.Common.{◌≡◌, ◌+◌, ◌*◌, ◌≤◌, ◌++◌, ◌∷◌, [], ℕ, ℤ, List, Option, Some, None, option_map, length, map, refl, sym, ap, ◌∙◌, arith, append_assoc, append-nil}
use Rattle.std.proofs.KnownBytes.{Consumes-nil, Consumes-trans}
use Rattle.std.proofs.lemmas.Grind.{flat_map-append}
use Rattle.std.proofs.lemmas.List.Elements.{All-nil}
use Rattle.std.specs.Io.KnownBytes.{Consumes}
use Rattle.std.specs.Prelude.{All}
use Rattle.io_edge.proofs.OutsideLemmas.{Grows-nil}
use Rattle.io_edge.specs.Outside.{Grows, SourceShown}
use Rattle.journal_keeper.specs.Journals.{Kept, Keeps, Labelled}
use Rattle.spec_connection.proofs.InOrder.{ticked_none}
use Rattle.kept_run.specs.Lines.{Accounts, AreAnsweredLines, HasMore, IsAnsweredLine, Line, all_texts, left_by, line_texts, response, responses}
use Rattle.kept_run.specs.Runs.{IsAnswerable, KeptSetting}
use Rattle.line_edge.specs.Lines.{with_feeds}
use Rattle.spec_connection.specs.Answered.{Ticked}
use Rattle.spec_site.specs.Configuration.{Site}

-- ---- what a keeper has

abbrev with_texts : List Labelled → Kept → Kept
with_texts more k = record { texts = k.texts ++ more; doubt = k.doubt }

pub more_none : (a : Option Kept) → HasMore a a []
more_none None = refl
more_none (Some k) = let e : k.texts ≡ k.texts ++ [] = sym (append-nil k.texts) in λ i. Some (record { texts = e i; doubt = k.doubt })

more_joined : (a : Option Kept) (xs ys : List Labelled) → option_map (with_texts ys) (option_map (with_texts xs) a) ≡ option_map (with_texts (xs ++ ys)) a
more_joined None xs ys = refl
more_joined (Some k) xs ys = λ i. Some (record { texts = append_assoc k.texts xs ys i; doubt = k.doubt })

pub more_join : (a b c : Option Kept) (xs ys : List Labelled) → HasMore a b xs → HasMore b c ys → HasMore a c (xs ++ ys)
more_join a b c xs ys h k = k ∙ (ap (option_map (with_texts ys)) h ∙ more_joined a xs ys)

pub keeps_more : (a b : Option Kept) (xs : List Labelled) → Keeps a b xs → HasMore a b xs
keeps_more None b xs h = h.1
keeps_more (Some k) b xs h = let e : [] ≡ k.doubt = sym h.0 in h.1 ∙ (λ i. Some (record { texts = k.texts ++ xs; doubt = e i }))

-- ---- one line more

module _ (site : Site) (user : ℕ) where
  pub answered_more : (before : Accounts) (ls : List Line) (l : Line) → AreAnsweredLines site user before ls → IsAnsweredLine site user (left_by before ls) l → AreAnsweredLines site user before (ls ++ l ∷ [])
  answered_more before [] l h k = (k, tt)
  answered_more before (m ∷ ls) l h k = (h.0, answered_more m.accounts ls l h.1 k)

  pub texts_more : (before : Accounts) (ls : List Line) (l : Line) → all_texts site before (ls ++ l ∷ []) ≡ all_texts site before ls ++ line_texts site (left_by before ls) l
  texts_more before [] l = append-nil (line_texts site before l)
  texts_more before (m ∷ ls) l = ap (λ (t : List Labelled). line_texts site before m ++ t) (texts_more m.accounts ls l) ∙ sym (append_assoc (line_texts site before m) (all_texts site m.accounts ls) (line_texts site (left_by m.accounts ls) l))

pub left_more : (before : Accounts) (ls : List Line) (l : Line) → left_by before (ls ++ l ∷ []) ≡ l.accounts
left_more before [] l = refl
left_more before (m ∷ ls) l = left_more m.accounts ls l

pub responses_more : (ls : List Line) (l : Line) → responses (ls ++ l ∷ []) ≡ responses ls ++ response l
responses_more ls l = flat_map-append response ls (l ∷ []) ∙ ap (λ (t : List ℕ). responses ls ++ t) (append-nil (response l))

pub feeds_more : (ls : List (List ℕ)) (l rest : List ℕ) → with_feeds ls ++ (l ++ 10 ∷ rest) ≡ with_feeds (ls ++ l ∷ []) ++ rest
feeds_more ls l rest =
    let one : l ++ 10 ∷ rest ≡ (l ++ 10 ∷ []) ++ rest = sym (append_assoc l (10 ∷ []) rest) in
    let none : with_feeds (l ∷ []) ≡ l ++ 10 ∷ [] = append-nil (l ++ 10 ∷ []) in
    ap (λ (t : List ℕ). with_feeds ls ++ t) one
    ∙ (sym (append_assoc (with_feeds ls) (l ++ 10 ∷ []) rest)
    ∙ ap (λ (t : List ℕ). t ++ rest) (ap (λ (t : List ℕ). with_feeds ls ++ t) (sym none) ∙ sym (flat_map-append (λ (m : List ℕ). m ++ 10 ∷ []) ls (l ∷ []))))

-- ---- behind some lines

abbrev pub bytes_of : List Line → List (List ℕ)
bytes_of ls = map (λ (l : Line). l.bytes) ls

abbrev pub moments_of : List Line → List ℤ
moments_of ls = map (λ (l : Line). l.moment) ls

-- In the setting y these lines, so many, were kept and answered, and the accounts stand as in `now`. `rest` was taken behind them.
pub record Standing (site : Site) (user : ℕ) (before : Accounts) (x y : KeptSetting) (now : Accounts) (rest : List ℕ) (count : ℕ) : Type 0 where
  pub taken : List ℕ
  pub lines : List Line
  pub consumed : Consumes x.source.left y.source.left taken
  pub parts : taken ≡ with_feeds (bytes_of lines) ++ rest
  pub answerable : All (λ (l : Line). IsAnswerable l.bytes) lines
  pub answered : AreAnsweredLines site user before lines
  pub left : left_by before lines ≡ now
  pub ticked : Ticked x.clock y.clock (moments_of lines)
  pub number : length lines ≡ count
  pub kept : HasMore x.keeper.told y.keeper.told (all_texts site before lines)
  pub written : Grows x.sink.holds y.sink.holds (responses lines)
  pub source_later : x.source.faults ≤ y.source.faults
  pub sink_later : x.sink.faults ≤ y.sink.faults
  pub keeper_later : x.keeper.faults ≤ y.keeper.faults
  pub undamaged : y.keeper.damages ≡ x.keeper.damages
  pub turns : now.1 ≤ before.1 + 16 * count
  pub all : length now.0 ≡ length before.0

pub standing_first : (site : Site) (user : ℕ) (before : Accounts) (x : KeptSetting) → Standing site user before x x before [] 0
standing_first site user before x = record {
  taken = [];
  lines = [];
  consumed = Consumes-nil x.source.left;
  parts = refl;
  answerable = All-nil (λ (l : Line). IsAnswerable l.bytes);
  answered = tt;
  left = refl;
  ticked = ticked_none x.clock;
  number = refl;
  kept = more_none x.keeper.told;
  written = Grows-nil x.sink.holds;
  source_later = omega arith;
  sink_later = omega arith;
  keeper_later = omega arith;
  undamaged = refl;
  turns = omega arith;
  all = refl;
}

abbrev pub with_source : KeptSetting → SourceShown → KeptSetting
with_source y s = record { source = s; sink = y.sink; clock = y.clock; keeper = y.keeper }

-- more was taken
pub standing_took : {site : Site} {user : ℕ} {before : Accounts} {x y : KeptSetting} {now : Accounts} {rest : List ℕ} {count : ℕ} → Standing site user before x y now rest count
    → (s : SourceShown) (more : List ℕ) → Consumes y.source.left s.left more → y.source.faults ≤ s.faults → Standing site user before x (with_source y s) now (rest ++ more) count
standing_took {site} {user} {before} {x} {y} {now} {rest} {count} st s more consumed later = record {
  taken = st.taken ++ more;
  lines = st.lines;
  consumed = Consumes-trans x.source.left y.source.left s.left st.taken more st.consumed consumed;
  parts = ap (λ (l : List ℕ). l ++ more) st.parts ∙ append_assoc (with_feeds (bytes_of st.lines)) rest more;
  answerable = st.answerable;
  answered = st.answered;
  left = st.left;
  ticked = st.ticked;
  number = st.number;
  kept = st.kept;
  written = st.written;
  source_later = omega (arith, st.source_later, later);
  sink_later = st.sink_later;
  keeper_later = st.keeper_later;
  undamaged = st.undamaged;
  turns = st.turns;
  all = st.all;
}
