-- Where nothing fails, a connection ends as its bytes do.
use Rattle.std.proofs.Common.{◌≡◌, ℕ, ◌<◌, List, [], ◌∷◌, ◌++◌, length, Bool, Option, Some, None, inl, inr, refl, sym, ap, ◌∙◌, subst, append-nil, arith}
use Rattle.std.proofs.KnownBytes.{Consumes-whole}
use Rattle.std.proofs.lemmas.List.{length-map}
use Rattle.std.specs.Io.KnownBytes.{Consumes, IsAtEnd}
use Rattle.std.specs.Prelude.{◌⊎◌, IfSome}
use Rattle.spec_batch.proofs.Chains.{spent_stop}
use Rattle.spec_batch.specs.Batch.{NextMeans}
use Rattle.spec_batch.specs.Chain.{Shown}
use Rattle.spec_http.specs.Messages.{Message}
use Rattle.spec_http.specs.Pipeline.{Ending, EndsAs, Reads, undecided, bad_head, close_asked, quota_spent}
use Rattle.spec_connection.specs.Serving.{EndHow, IsUnanswered, Rests, Serves, Setting, Whole}
use Rattle.spec_connection.specs.Exchanges.{Begun, Told, Exchange, all_bytes, called, messages_of, uncalled}
use Rattle.spec_history.specs.MostTurns.{most_turns}
use Rattle.io_edge.specs.Outside.{Grows}
use Rattle.spec_site.specs.Configuration.{Site, user_at}
use Rattle.spec_time.specs.Moments.{clamped}
use Rattle.spec_batch.specs.declared.desk.DeskError.TheVariants as reason
use Rattle.spec_connection.specs.declared.served.ConnEnd.{ConnEnd}
use Rattle.spec_connection.specs.declared.served.ConnEnd.TheVariants as end
use Rattle.spec_connection.specs.declared.served.Served.{Served}
use Rattle.conn_serve.specs.Complete.{AllAnswered, EndsWithBytes, FaultlessConnectionsAreAnswered, FaultlessConnectionsAreDetermined, Holds, IsFaultless, IsUnharmed, ReadFaultsComeLast}
use Rattle.http_edge.proofs.Pipelines.{determined, reads_more}
use Rattle.http_edge.proofs.Stays.{refused_more}

-- more bytes change neither the messages nor the end, but where there was none yet
abbrev HoldsFurther : ℕ → List ℕ → List Message → Ending → Type 0
HoldsFurther most bytes ms ending = (rest : List ℕ) × Holds most bytes ms rest ending

refused_further : (most : ℕ) (bytes more : List ℕ) (ms : List Message) (left : List ℕ) (status : ℕ) → Holds most bytes ms left (bad_head status) → HoldsFurther most (bytes ++ more) ms (bad_head status)
refused_further most bytes more ms left status h = (left ++ more, (reads_more bytes ms left more h.0, (h.1.0, h.1.1, refused_more left more status h.1.2)))

asked_further : (most : ℕ) (bytes more : List ℕ) (ms : List Message) (left : List ℕ) → Holds most bytes ms left close_asked → HoldsFurther most (bytes ++ more) ms close_asked
asked_further most bytes more ms left h = (left ++ more, (reads_more bytes ms left more h.0, h.1))

spent_further : (most : ℕ) (bytes more : List ℕ) (ms : List Message) (left : List ℕ) → Holds most bytes ms left quota_spent → HoldsFurther most (bytes ++ more) ms quota_spent
spent_further most bytes more ms left h = (left ++ more, (reads_more bytes ms left more h.0, h.1))

-- what holds of the taken bytes, whatever follows, holds of all
of_told : (P : List ℕ → Type 0) (a b : Option (List ℕ)) (taken : List ℕ) → Consumes a b taken → ((more : List ℕ) → P (taken ++ more)) → IfSome a P
of_told P None b taken c h = tt
of_told P (Some x) None taken c h = absurd c
of_told P (Some x) (Some y) taken c h = subst P (sym c) (h y)

module _ {site : Site} {most : ℕ} {x x' : Setting} {served : Served} (s : Serves site most x x' served) where
  module _ {ending : Ending} {text : List ℕ} (w : Whole site most s.exchanges s.unwritten s.tail s.behind ending text) where
    all_exchanges : s.exchanges ++ s.unwritten ≡ s.exchanges
    all_exchanges = ap (λ (l : List Exchange). s.exchanges ++ l) w.all_written ∙ append-nil s.exchanges

    holds : Holds most s.taken (messages_of s.exchanges) s.behind ending
    holds = (
      subst (λ (l : List Exchange). Reads s.taken (messages_of l) s.behind) all_exchanges s.in_order,
      subst (λ (k : ℕ). EndsAs most k (messages_of s.exchanges) s.behind ending) (sym (length-map s.exchanges (λ (t : Exchange). t.message))) w.ends,
    )

    all_answered : x'.desk ≡ s.desk → IfSome x.source.left (λ bytes. HoldsFurther most bytes (messages_of s.exchanges) ending) → AllAnswered site most x x' served s.behind ending text
    all_answered same told = record {
      taken = s.taken;
      exchanges = s.exchanges;
      consumed = s.consumed;
      count = s.count;
      holds = holds;
      holds_told = told;
      fit = s.fit;
      told = subst (λ (y : Shown × List Exchange). Told x.clock x'.clock [] served.fronts.items x.desk y.0 y.1) (λ j. (sym same j, all_exchanges j)) s.told;
      written = subst (λ (l : List ℕ). Grows x.sink.holds x'.sink.holds (all_bytes s.exchanges ++ l)) w.closing s.written;
    }

  -- the end is that of all bytes, where they are told
  abbrev OfAll : Ending → Type 0
  OfAll ending = IfSome x.source.left (λ bytes. HoldsFurther most bytes (messages_of s.exchanges) ending)

  -- how the connection ended
  abbrev pub How : ConnEnd → Type 0
  How e = EndHow site most s.exchanges s.unwritten s.tail s.behind x x' s.desk e

  of_end : Whole site most s.exchanges s.unwritten s.tail s.behind undecided [] → IsAtEnd x'.source.left → OfAll undecided
  of_end w over = Consumes-whole x.source.left x'.source.left s.taken (λ (l : List ℕ). HoldsFurther most l (messages_of s.exchanges) undecided) s.consumed over (s.behind, holds w)

  of_refusal : {status : ℕ} {text : List ℕ} → Whole site most s.exchanges s.unwritten s.tail s.behind (bad_head status) text → OfAll (bad_head status)
  of_refusal {status} w = of_told (λ (l : List ℕ). HoldsFurther most l (messages_of s.exchanges) (bad_head status)) x.source.left x'.source.left s.taken s.consumed (λ more. refused_further most s.taken more (messages_of s.exchanges) s.behind status (holds w))

  of_close : Whole site most s.exchanges s.unwritten s.tail s.behind close_asked [] → OfAll close_asked
  of_close w = of_told (λ (l : List ℕ). HoldsFurther most l (messages_of s.exchanges) close_asked) x.source.left x'.source.left s.taken s.consumed (λ more. asked_further most s.taken more (messages_of s.exchanges) s.behind (holds w))

  of_quota : Whole site most s.exchanges s.unwritten s.tail s.behind quota_spent [] → OfAll quota_spent
  of_quota w = of_told (λ (l : List ℕ). HoldsFurther most l (messages_of s.exchanges) quota_spent) x.source.left x'.source.left s.taken s.consumed (λ more. spent_further most s.taken more (messages_of s.exchanges) s.behind (holds w))

spent_call : {site : Site} {close : Bool} {t : Exchange} {u v : Shown} → Begun site close t reason.PassSpent u v → (u.turns ≡ most_turns) × (v ≡ u)
spent_call (uncalled is moments none same) = absurd (cc)
spent_call {site} {close} {t} {u} {v} (called b) = (let r = b.begins in spent_stop (NextMeans (user_at site b.user) r.request (clamped b.moment) r.steps r.rest) (clamped b.moment) u v r.stops)

pub spent_turns : {site : Site} {close : Bool} {t : Exchange} {u v : Shown} → Begun site close t reason.PassSpent u v → v.turns ≡ most_turns
spent_turns b = (let spent = spent_call b in ap (λ (d : Shown). d.turns) spent.1 ∙ spent.0)

pub spent_behind : {site : Site} {close : Bool} {t : Exchange} {u v : Shown} → Begun site close t reason.PassSpent u v → u.turns ≡ most_turns
spent_behind b = (spent_call b).0

pub never_spent : {site : Site} {most : ℕ} {exchanges unwritten : List Exchange} {tail behind : List ℕ} {x x' : Setting} {u : Shown} → IsUnharmed x x' → IsUnanswered site most exchanges unwritten tail behind reason.PassSpent u x'.desk → ⊥
never_spent unharmed left = let spent = spent_turns left.begun in let may = unharmed.may_call in let bad : ⊥ = omega (arith, spent, may) in bad

module _ {site : Site} {most : ℕ} {x x' : Setting} {served : Served} (s : Serves site most x x' served) (unharmed : IsUnharmed x x') where
  answered_to : (e : ConnEnd) → How s e → Rests e s.desk x'.desk → EndsWithBytes site most x x' served e
  answered_to end.Closed how rests =
      (subst (λ (l : List ℕ). AllAnswered site most x x' served l undecided []) how.1 (all_answered s how.0 rests (of_end s how.0 how.2)), how.2)
  answered_to end.Truncated how rests = (s.behind, how.1, all_answered s how.0 rests (of_end s how.0 how.2), how.2)
  answered_to end.CloseAsked how rests = (s.behind, all_answered s how rests (of_close s how))
  answered_to (end.BadHead status) how rests = (s.behind, all_answered s how rests (of_refusal s how))
  answered_to end.Quota how rests = (s.behind, all_answered s how rests (of_quota s how))
  answered_to end.ReadFault how rests = unharmed.read how.1
  answered_to end.WriteFault how rests = unharmed.wrote how.2
  answered_to end.PassSpent how rests = never_spent unharmed how.0
  answered_to end.NoMemory how rests = tt

pub faultless : FaultlessConnectionsAreAnswered
faultless site most x x' served s unharmed = answered_to s unharmed served.end s.how s.rests

pub read_fault_last : ReadFaultsComeLast
read_fault_last site most x x' served s is ms left ending h =
    let how : How s end.ReadFault = subst (How s) is s.how in
    let here = holds s how.0 in
    (determined most s.taken ms (messages_of s.exchanges) left s.behind ending undecided h.0 h.1 here.0 here.1).2

-- ---- the end is a function of the bytes

-- how a connection ends whose bytes end so, with this left
abbrev pub end_of : Ending → List ℕ → ConnEnd
end_of undecided [] = end.Closed
end_of undecided (x ∷ left) = end.Truncated
end_of (bad_head status) left = end.BadHead status
end_of close_asked left = end.CloseAsked
end_of quota_spent left = end.Quota

truncated_of : (left : List ℕ) → 0 < length left → end.Truncated ≡ end_of undecided left
truncated_of [] h = absurd (omega (arith, h))
truncated_of (x ∷ left) h = refl

pub record EndsSo (most : ℕ) (bytes : List ℕ) (ms : List Message) (e : ConnEnd) : Type 0 where
  pub left : List ℕ
  pub ending : Ending
  pub holds : Holds most bytes ms left ending
  pub is : e ≡ end_of ending left

taken_whole : (bytes taken : List ℕ) (now : Option (List ℕ)) → Consumes (Some bytes) now taken → IsAtEnd now → taken ≡ bytes
taken_whole bytes taken None c over = absurd c
taken_whole bytes taken (Some more) c over = sym (c ∙ ap (λ (l : List ℕ). taken ++ l) over ∙ append-nil taken)

module _ {site : Site} {most : ℕ} {x x' : Setting} {served : Served} (s : Serves site most x x' served) (unharmed : IsUnharmed x x') where
  ends_here : (e : ConnEnd) → How s e → (e ≡ end.NoMemory) ⊎ EndsSo most s.taken (messages_of s.exchanges) e
  ends_here end.Closed how = inr (record { left = s.behind; ending = undecided; holds = holds s how.0; is = ap (end_of undecided) (sym how.1) })
  ends_here end.Truncated how = inr (record { left = s.behind; ending = undecided; holds = holds s how.0; is = truncated_of s.behind how.1 })
  ends_here end.CloseAsked how = inr (record { left = s.behind; ending = close_asked; holds = holds s how; is = refl })
  ends_here (end.BadHead status) how = inr (record { left = s.behind; ending = bad_head status; holds = holds s how; is = refl })
  ends_here end.Quota how = inr (record { left = s.behind; ending = quota_spent; holds = holds s how; is = refl })
  ends_here end.ReadFault how = absurd (unharmed.read how.1)
  ends_here end.WriteFault how = absurd (unharmed.wrote how.2)
  ends_here end.PassSpent how = absurd (never_spent unharmed how.0)
  ends_here end.NoMemory how = inl refl

  -- it ended as the bytes that were taken do
  pub taken_end : (served.end ≡ end.NoMemory) ⊎ EndsSo most s.taken (messages_of s.exchanges) served.end
  taken_end = ends_here served.end s.how

  module _ {bytes : List ℕ} (given : x.source.left ≡ Some bytes) where
    ends_at_end : {e : ConnEnd} → Whole site most s.exchanges s.unwritten s.tail s.behind undecided [] → IsAtEnd x'.source.left → e ≡ end_of undecided s.behind → EndsSo most bytes (messages_of s.exchanges) e
    ends_at_end w over is =
        let all : s.taken ≡ bytes = taken_whole bytes s.taken x'.source.left (subst (λ (o : Option (List ℕ)). Consumes o x'.source.left s.taken) given s.consumed) over in
        record { left = s.behind; ending = undecided; holds = subst (λ (l : List ℕ). Holds most l (messages_of s.exchanges) s.behind undecided) all (holds s w); is = is }

    ends_further : {e : ConnEnd} (ending : Ending) → OfAll s ending → ((rest : List ℕ) → e ≡ end_of ending rest) → EndsSo most bytes (messages_of s.exchanges) e
    ends_further ending told is =
        let a : HoldsFurther most bytes (messages_of s.exchanges) ending = subst (λ (o : Option (List ℕ)). IfSome o (λ l. HoldsFurther most l (messages_of s.exchanges) ending)) given told in
        record { left = a.0; ending = ending; holds = a.1; is = is a.0 }

    ends_so : (e : ConnEnd) → How s e → (e ≡ end.NoMemory) ⊎ EndsSo most bytes (messages_of s.exchanges) e
    ends_so end.Closed how = inr (ends_at_end how.0 how.2 (ap (end_of undecided) (sym how.1)))
    ends_so end.Truncated how = inr (ends_at_end how.0 how.2 (truncated_of s.behind how.1))
    ends_so end.CloseAsked how = inr (ends_further close_asked (of_close s how) (λ rest. refl))
    ends_so (end.BadHead status) how = inr (ends_further (bad_head status) (of_refusal s how) (λ rest. refl))
    ends_so end.Quota how = inr (ends_further quota_spent (of_quota s how) (λ rest. refl))
    ends_so end.ReadFault how = absurd (unharmed.read how.1)
    ends_so end.WriteFault how = absurd (unharmed.wrote how.2)
    ends_so end.PassSpent how = absurd (never_spent unharmed how.0)
    ends_so end.NoMemory how = inl refl

    -- it ended as all bytes of the source do
    pub all_end : (served.end ≡ end.NoMemory) ⊎ EndsSo most bytes (messages_of s.exchanges) served.end
    all_end = ends_so served.end s.how

with_memory : {X : Type 0} {e : ConnEnd} → (e ≡ end.NoMemory) ⊎ X → (e ≡ end.NoMemory → ⊥) → X
with_memory (inl is) m = absurd (m is)
with_memory (inr h) m = h

ends_of : (most : ℕ) (bytes : List ℕ) (ms : List Message) (e : ConnEnd) → IsFaultless most bytes ms e → EndsSo most bytes ms e
ends_of most bytes ms e h =
    let how : How h.serves e = subst (How h.serves) h.ended h.serves.how in
    subst (λ (l : List Message). EndsSo most bytes l e) h.answered (with_memory (ends_so h.serves h.unharmed h.given e how) h.had_memory)

pub faultless_determined : FaultlessConnectionsAreDetermined
faultless_determined most bytes ms ns e f one other =
    let a = ends_of most bytes ms e one in
    let b = ends_of most bytes ns f other in
    let same = determined most bytes ms ns a.left b.left a.ending b.ending a.holds.0 a.holds.1 b.holds.0 b.holds.1 in
    (same.0, a.is ∙ ((λ i. end_of (same.2 i) (same.1 i)) ∙ sym b.is))
