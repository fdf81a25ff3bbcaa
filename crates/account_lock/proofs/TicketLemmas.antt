-- Each step keeps what the rule says of tickets and of passes.
use Rattle.std.proofs.Common.{◌≡◌, ◌≢◌, ℕ, ◌+◌, ◌<◌, ◌≤◌, List, [], ◌∷◌, ◌++◌, length, set, sym, refl, ap, ◌∙◌, IsTrue, Bool, cond, arith, length-set, length-append}
use Rattle.std.proofs.lemmas.Bool.{false≢true}
use Rattle.std.proofs.lemmas.List.Sums.{sum_by_push}
use mathlib.Core.Logic.{dite}
use native.Mathlib.Decide.{ℕ_discrete}
use lib.ListN.{get_elem?}
use Rattle.atomic_table.proofs.Lists.{at_longer, set_here, set_else}
use Rattle.spec_history.specs.MostTurns.{most_turns}
use Rattle.account_lock.specs.Lock.{PassView, in_line, has_turn}
use Rattle.account_lock.specs.LockSteps.{with_ticket, out_of_line, having_split, split_off}
use Rattle.account_lock.specs.declared.lock.Phase.{Phase}
use Rattle.account_lock.specs.declared.lock.Phase.TheVariants.{Idle, Waits, Turn, Read, Done}
use Rattle.account_lock.specs.TicketRule.{At, TicketsHold, PassesHold}
use Rattle.account_lock.proofs.ViewLemmas.{sum_by-set_view, sum_by-most, each_set, each_last, at_inside, same_at}

abbrev places : Bool → ℕ
places b = cond b 1 0

-- the next ticket is below 2^48 and one
pub tickets_few : (t n : ℕ) (vs : List PassView) → TicketsHold t n vs → PassesHold vs → t ≤ 281474976710656
tickets_few t n vs l p =
    let few = p.few_passes p.first.0 p.first.1 in
    let sum = sum_by-most (λ v. v.turns) most_turns vs p.few_turns in
    let issued = l.issued in
    omega arith

pub turn_in_line : (p : Phase) → IsTrue (has_turn p) → IsTrue (in_line p)
turn_in_line Idle has = has
turn_in_line Waits has = refl
turn_in_line Turn has = refl
turn_in_line Read has = refl
turn_in_line Done has = refl

-- only one pass has the turn
pub only_turn : (t n : ℕ) (vs : List PassView) (id : ℕ) (v : PassView) → TicketsHold t n vs → At vs id v → IsTrue (has_turn v.phase) → (i : ℕ) (u : PassView) → i ≢ id → At vs i u → IsTrue (has_turn u.phase) → ⊥
only_turn t n vs id v l at turn i u other at' turn' =
    other (l.apart i id u v at' at (turn_in_line u.phase turn') (turn_in_line v.phase turn) (l.served i u at' turn' ∙ sym (l.served id v at turn)))

-- a step leaves the numbers of passes
pub passes_stay : (vs : List PassView) (id : ℕ) (v w : PassView) → PassesHold vs → At vs id v → w.number ≡ v.number → w.splits ≡ v.splits → w.turns ≤ most_turns → PassesHold (set vs id w)
passes_stay vs id v w p at same_number same_splits few =
    let size = length-set vs id w in
    let place = λ (i : ℕ) (u : PassView) (z : i ≡ 0) (at : At vs i u). p.few_passes u (ap (λ (k : ℕ). get_elem? vs k) (sym z) ∙ at) in
    record {
      few_turns = each_set (λ i u. u.turns ≤ most_turns) vs id w (λ i u _ at. p.few_turns i u at) few;
      number = each_set (λ i u. u.number ≡ i) vs id w (λ i u _ at. p.number i u at) (same_number ∙ p.number id v at);
      alone = each_set (λ i u. 0 < i → u.splits ≡ 0) vs id w (λ i u _ at. p.alone i u at) (λ behind. same_splits ∙ p.alone id v at behind);
      few_passes = λ u at'. each_set (λ i u. i ≡ 0 → (length (set vs id w) ≡ u.splits + 1) × (u.splits < 256)) vs id w
          (λ i u _ at z. let few = place i u z at in (size ∙ few.0, few.1))
          (λ z. let few = place id v z at in (omega arith, omega arith)) 0 u at' refl;
      first = dite (ℕ_discrete 0 id)
          (λ is. (w, ap (λ (k : ℕ). get_elem? (set vs id w) k) is ∙ set_here vs id w (at_inside vs id v at)))
          (λ other. (p.first.0, set_else vs id 0 w other ∙ p.first.1));
    }

-- the first pass splits off another
pub passes_split : (vs : List PassView) (v : PassView) → PassesHold vs → At vs 0 v → v.splits + 1 < 256 → PassesHold (set vs 0 (having_split v) ++ split_off v ∷ [])
passes_split vs v p at few =
    let w : PassView = having_split v in
    let y : PassView = split_off v in
    let ws : List PassView = set vs 0 w in
    let size : length ws ≡ length vs = length-set vs 0 w in
    let passes = p.few_passes v at in
    let grown : length (ws ++ y ∷ []) ≡ length vs + 1 = (length-append ws (y ∷ []) ∙ omega arith) in
    let each = λ (P : ℕ → PassView → Type 0) (others : (i : ℕ) (u : PassView) → i ≢ 0 → At vs i u → P i u) (here : P 0 w) (last : P (length ws) y). each_last P ws y (each_set P vs 0 w others here) last in
    record {
      few_turns = each (λ i u. u.turns ≤ most_turns) (λ i u _ at. p.few_turns i u at) (p.few_turns 0 v at) (omega arith);
      number = each (λ i u. u.number ≡ i) (λ i u _ at. p.number i u at) (p.number 0 v at) (omega arith);
      alone = each (λ i u. 0 < i → u.splits ≡ 0) (λ i u _ at. p.alone i u at) (λ behind. absurd (omega arith)) (λ behind. refl);
      few_passes = λ u at'. each (λ i u. i ≡ 0 → (length (ws ++ y ∷ []) ≡ u.splits + 1) × (u.splits < 256)) (λ i u other _ z. absurd (other z)) (λ z. (omega arith, few))
          (λ z. let some = at_inside vs 0 v at in absurd (omega arith)) 0 u at' refl;
      first = (w, at_longer ws (y ∷ []) 0 w (set_here vs 0 w (at_inside vs 0 v at)));
    }

-- a pass takes the next ticket
pub issue : (t n : ℕ) (vs : List PassView) (id : ℕ) (v : PassView) → TicketsHold t n vs → At vs id v → v.phase ≡ Idle → TicketsHold (t + 1) n (set vs id (with_ticket v t))
issue t n vs id v l at idle =
    let w : PassView = with_ticket v t in
    let inside = at_inside vs id v at in
    let out : places (in_line v.phase) ≡ 0 = ap (λ p. places (in_line p)) idle in
    record {
      issued = (let sums = sum_by-set_view (λ v. v.turns) vs id v w at in let old = l.issued in omega arith);
      waiting = (let sums = sum_by-set_view (λ v. places (in_line v.phase)) vs id v w at in let old = l.waiting in omega arith);
      in_range = each_set (λ i u. IsTrue (in_line u.phase) → (n ≤ u.ticket) × (u.ticket < t + 1)) vs id w
          (λ i u _ at b. let r = l.in_range i u at b in (r.0, omega arith))
          (λ b. let c = l.waiting in (omega arith, omega arith));
      apart = λ i j a b ati atj ba bb e. each_set (λ i u. IsTrue (in_line u.phase) → u.ticket ≡ b.ticket → i ≡ j) vs id w
          (λ i u _ at bu e. each_set (λ j x. IsTrue (in_line x.phase) → u.ticket ≡ x.ticket → i ≡ j) vs id w
          (λ j x _ atx bx e. l.apart i j u x at atx bu bx e)
          (λ bx e. let r = l.in_range i u at bu in absurd (omega arith)) j b atj bb e)
          (λ bu e. each_set (λ j x. IsTrue (in_line x.phase) → t ≡ x.ticket → id ≡ j) vs id w
          (λ j x _ atx bx e. let r = l.in_range j x atx bx in absurd (omega arith))
          (λ bx e. refl) j b atj bb e) i a ati ba e;
      met = λ k low high. dite (ℕ_discrete k t)
          (λ is. (id, w, set_here vs id w inside, refl, sym is))
          (λ other. let m = l.met k low (omega arith) in
          (m.0, m.1, set_else vs id m.0 w (λ e. absurd (false≢true (sym (ap in_line idle) ∙ (ap (λ (u : PassView). in_line u.phase) (sym (same_at vs m.0 id m.1 v e m.2 at)) ∙ m.3)))) ∙ m.2, m.3, m.4));
      served = each_set (λ i u. IsTrue (has_turn u.phase) → u.ticket ≡ n) vs id w (λ i u _ at b. l.served i u at b) (λ b. absurd (false≢true b));
    }

-- a step leaves a pass's place in the line
pub tickets_stay : (t n : ℕ) (vs : List PassView) (id : ℕ) (v w : PassView) → TicketsHold t n vs → At vs id v
    → w.turns ≡ v.turns → w.ticket ≡ v.ticket → in_line w.phase ≡ in_line v.phase → (IsTrue (has_turn w.phase) → v.ticket ≡ n)
    → TicketsHold t n (set vs id w)
tickets_stay t n vs id v w l at same_turns same_ticket same_place in_turn =
    let inside = at_inside vs id v at in
    let same : places (in_line w.phase) ≡ places (in_line v.phase) = ap places same_place in
    record {
      issued = (let sums = sum_by-set_view (λ v. v.turns) vs id v w at in let old = l.issued in omega arith);
      waiting = (let sums = sum_by-set_view (λ v. places (in_line v.phase)) vs id v w at in let old = l.waiting in omega arith);
      in_range = each_set (λ i u. IsTrue (in_line u.phase) → (n ≤ u.ticket) × (u.ticket < t)) vs id w
          (λ i u _ at b. l.in_range i u at b)
          (λ b. let r = l.in_range id v at (sym same_place ∙ b) in (omega arith, omega arith));
      apart = λ i j a b ati atj ba bb e. each_set (λ i u. IsTrue (in_line u.phase) → u.ticket ≡ b.ticket → i ≡ j) vs id w
          (λ i u _ at' bu e. each_set (λ j x. IsTrue (in_line x.phase) → u.ticket ≡ x.ticket → i ≡ j) vs id w
          (λ j x _ atx bx e. l.apart i j u x at' atx bu bx e)
          (λ bx e. l.apart i id u v at' at bu (sym same_place ∙ bx) (e ∙ same_ticket)) j b atj bb e)
          (λ bu e. each_set (λ j x. IsTrue (in_line x.phase) → w.ticket ≡ x.ticket → id ≡ j) vs id w
          (λ j x _ atx bx e. l.apart id j v x at atx (sym same_place ∙ bu) bx (sym same_ticket ∙ e))
          (λ bx e. refl) j b atj bb e) i a ati ba e;
      met = λ k low high. let m = l.met k low high in dite (ℕ_discrete m.0 id)
          (λ e. let is = sym (same_at vs m.0 id m.1 v e m.2 at) in (id, w, set_here vs id w inside, same_place ∙ (ap (λ (u : PassView). in_line u.phase) is ∙ m.3), same_ticket ∙ (ap (λ (u : PassView). u.ticket) is ∙ m.4)))
          (λ other. (m.0, m.1, set_else vs id m.0 w other ∙ m.2, m.3, m.4));
      served = each_set (λ i u. IsTrue (has_turn u.phase) → u.ticket ≡ n) vs id w (λ i u _ at b. l.served i u at b) (λ b. same_ticket ∙ in_turn b);
    }

-- the pass that is served leaves the line
pub leave : (t n : ℕ) (vs : List PassView) (id : ℕ) (v : PassView) → TicketsHold t n vs → At vs id v → IsTrue (has_turn v.phase) → TicketsHold t (n + 1) (set vs id (out_of_line v))
leave t n vs id v l at turn =
    let w : PassView = out_of_line v in
    let was = turn_in_line v.phase turn in
    let here = l.served id v at turn in
    let placed : places (in_line v.phase) ≡ 1 = ap places was in
    record {
      issued = (let sums = sum_by-set_view (λ v. v.turns) vs id v w at in let old = l.issued in omega arith);
      waiting = (let sums = sum_by-set_view (λ v. places (in_line v.phase)) vs id v w at in let old = l.waiting in omega arith);
      in_range = each_set (λ i u. IsTrue (in_line u.phase) → (n + 1 ≤ u.ticket) × (u.ticket < t)) vs id w
          (λ i u ne at' b. let r = l.in_range i u at' b in let other : u.ticket ≢ n = (λ e. ne (l.apart i id u v at' at b was (e ∙ sym here))) in (omega arith, r.1))
          (λ b. absurd (false≢true b));
      apart = λ i j a b ati atj ba bb e. each_set (λ i u. IsTrue (in_line u.phase) → u.ticket ≡ b.ticket → i ≡ j) vs id w
          (λ i u _ at' bu e. each_set (λ j x. IsTrue (in_line x.phase) → u.ticket ≡ x.ticket → i ≡ j) vs id w
          (λ j x _ atx bx e. l.apart i j u x at' atx bu bx e)
          (λ bx e. absurd (false≢true bx)) j b atj bb e)
          (λ bu e. absurd (false≢true bu)) i a ati ba e;
      met = λ k low high. let m = l.met k (omega arith) high in
          (m.0, m.1, set_else vs id m.0 w (λ e. let x = ap (λ (u : PassView). u.ticket) (same_at vs m.0 id m.1 v e m.2 at) in let y = m.4 in absurd (omega arith)) ∙ m.2, m.3, m.4);
      served = each_set (λ i u. IsTrue (has_turn u.phase) → u.ticket ≡ n + 1) vs id w
          (λ i u ne at' b. absurd (only_turn t n vs id v l at turn i u ne at' b))
          (λ b. absurd (false≢true b));
    }

-- the first pass splits off another
pub tickets_split : (t n : ℕ) (vs : List PassView) (v : PassView) → TicketsHold t n vs → At vs 0 v → TicketsHold t n (set vs 0 (having_split v) ++ split_off v ∷ [])
tickets_split t n vs v l at =
    let w : PassView = having_split v in
    let y : PassView = split_off v in
    let ws : List PassView = set vs 0 w in
    let each = λ (P : ℕ → PassView → Type 0) (others : (i : ℕ) (u : PassView) → i ≢ 0 → At vs i u → P i u) (here : P 0 w) (last : P (length ws) y). each_last P ws y (each_set P vs 0 w others here) last in
    record {
      issued = (let sums = sum_by-set_view (λ v. v.turns) vs 0 v w at in let old = l.issued in let last = sum_by_push (λ v. v.turns) ws y in omega arith);
      waiting = (let sums = sum_by-set_view (λ v. places (in_line v.phase)) vs 0 v w at in let old = l.waiting in let last = sum_by_push (λ v. places (in_line v.phase)) ws y in omega arith);
      in_range = each (λ i u. IsTrue (in_line u.phase) → (n ≤ u.ticket) × (u.ticket < t)) (λ i u _ at b. l.in_range i u at b) (λ b. l.in_range 0 v at b) (λ b. absurd (false≢true b));
      apart = λ i j a b ati atj ba bb e. each (λ i u. IsTrue (in_line u.phase) → u.ticket ≡ b.ticket → i ≡ j)
          (λ i u _ at' bu e. each (λ j x. IsTrue (in_line x.phase) → u.ticket ≡ x.ticket → i ≡ j)
          (λ j x _ atx bx e. l.apart i j u x at' atx bu bx e) (λ bx e. l.apart i 0 u v at' at bu bx e) (λ bx e. absurd (false≢true bx)) j b atj bb e)
          (λ bu e. each (λ j x. IsTrue (in_line x.phase) → v.ticket ≡ x.ticket → 0 ≡ j)
          (λ j x _ atx bx e. l.apart 0 j v x at atx bu bx e) (λ bx e. refl) (λ bx e. absurd (false≢true bx)) j b atj bb e)
          (λ bu e. absurd (false≢true bu)) i a ati ba e;
      met = λ k low high. let m = l.met k low high in dite (ℕ_discrete m.0 0)
          (λ e. let is = sym (same_at vs m.0 0 m.1 v e m.2 at) in
          (0, w, at_longer ws (y ∷ []) 0 w (set_here vs 0 w (at_inside vs 0 v at)), ap (λ (u : PassView). in_line u.phase) is ∙ m.3, ap (λ (u : PassView). u.ticket) is ∙ m.4))
          (λ other. (m.0, m.1, at_longer ws (y ∷ []) m.0 m.1 (set_else vs 0 m.0 w other ∙ m.2), m.3, m.4));
      served = each (λ i u. IsTrue (has_turn u.phase) → u.ticket ≡ n) (λ i u _ at b. l.served i u at b) (λ b. l.served 0 v at b) (λ b. absurd (false≢true b));
    }
