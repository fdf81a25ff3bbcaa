-- Where the loop of a socket stands, and what each of its ends says.
use Rattle.std.proofs.Common.{◌≡◌, ℕ, ℤ, ◌+◌, ◌<◌, ◌≤◌, List, [], ◌∷◌, ◌++◌, length, length-append, Option, Some, None, Result, Ok, Err, inl, inr, refl, sym, ap, ◌∙◌, subst, append-nil, arith, Bool, true, false}
use Rattle.std.specs.Prelude.{All, nat_lt, sum_by}
use Rattle.std.proofs.lemmas.Bool.Decides.{nat_tests}
use Rattle.std.proofs.lemmas.Grind.{flat_map-append, fold-append}
use Rattle.io_edge.specs.Outside.{Rose}
use Rattle.spec_batch.proofs.Chains.{accounts_stay}
use Rattle.spec_batch.specs.Chain.{Made, Shown}
use Rattle.spec_batch.specs.declared.desk.DeskError.{DeskError}
use Rattle.spec_batch.specs.declared.desk.DeskError.TheVariants as reason
use Rattle.spec_batch.specs.declared.desk.Front.{Front}
use Rattle.spec_core.specs.declared.user.Grant.{Grant}
use Rattle.spec_core.specs.declared.user.User.{User}
use Rattle.spec_push.specs.declared.watched.Watched.{Watched}
use Rattle.spec_sockets.specs.Links.{LinkShown, HasNoMoreMessages, SendsTexts, TakesMessages}
use Rattle.spec_sockets.specs.Serving.{IsSpent, SocketEndHow, SocketRests, ServesSocket, SocketSetting, end_of_desk}
use Rattle.spec_sockets.specs.Turns.{AllTurnsFit, Turn, TurnBegun, TurnFits, TurnsTold, look_size, looked, made_in_look, made_in_looks, replied, replies_in, reply_of, sent_by, sent_in, switched, taken_by_turn, taken_in, watched_after, watched_behind_all}
use Rattle.spec_sockets.specs.declared.message.WsMessage.{WsMessage}
use Rattle.spec_sockets.specs.declared.message.WsMessage.TheVariants.{Binary}
use Rattle.spec_sockets.specs.declared.served.TheConstants.{MAX_LOOK_CALLS, MAX_TURNS}
use Rattle.spec_sockets.specs.declared.served.WsEnd.{WsEnd}
use Rattle.spec_sockets.specs.declared.served.WsEnd.TheVariants as end
use Rattle.spec_sockets.specs.declared.served.WsServed.{WsServed}
use Rattle.ws_edge.specs.declared.link.LinkError.{LinkError}
use Rattle.ws_edge.specs.declared.link.LinkError.TheVariants as fault
use Rattle.ws_serve.proofs.TurnLemmas.{Sends-nil, Sends-trans, Takes-nil, Takes-trans, few_replies, fit_more, looks_few, told_join, told_none}
use Rattle.ws_serve.proofs.Unsaid.{unsaid_turn}
use Rattle.ws_serve.proofs.Watching.{watched_within}
use Rattle.ws_serve.specs.Ending.{IsNextText, end_of_link}
use Rattle.ws_serve.specs.Turning.{TakesTurn, as_messages, replies_said, texts_said}
use Rattle.ws_serve.specs.declared.push.Push.{Push}
use Rattle.ws_serve.specs.declared.turn.Said.{Said}

abbrev pub setting : LinkShown → Option (ℕ → ℤ) → Shown → SocketSetting
setting link clock shown = record { link = link; clock = clock; desk = shown }

-- what is put together of these fronts, so many replies and this end says how the socket was served
abbrev pub Ends : User → ℕ → SocketSetting → SocketSetting → List Front → ℕ → WsEnd → Type 0
Ends user most x x' fronts replies e = (served : WsServed) → served.fronts.items ≡ fronts → served.replies ≡ replies → served.end ≡ e → ServesSocket user most x x' served

-- all that was done so far
pub record Stand (user : User) (taken : List WsMessage) (turns : List Turn) (x x' : SocketSetting) (fronts : List Front) : Type 0 where
  pub took : TakesMessages x.link.left x'.link.left taken
  pub later : x.link.faults ≤ x'.link.faults
  pub fit : AllTurnsFit user [] turns
  pub told : TurnsTold x.clock x'.clock [] fronts x.desk x'.desk turns
  pub sent : SendsTexts x.link.sent x'.link.sent (sent_in turns)

-- so many turns were had, with so many replies to texts
pub record Serving (user : User) (most n replies : ℕ) (push : Push) (x x' : SocketSetting) (fronts : List Front) : Type 0 where
  pub turns : List Turn
  pub stand : Stand user (taken_in turns) turns x x' fronts
  pub count : length turns ≡ n
  pub replied : length (replies_in turns) ≡ replies
  pub watch : push.watch ≡ watched_behind_all user turns
  pub calls : push.calls ≡ length (made_in_looks turns)
  pub room : replies ≤ most
  pub looks : push.calls ≤ MAX_LOOK_CALLS

pub serving_start : {user : User} {most : ℕ} {push : Push} (x : SocketSetting) (f : List Front) → f ≡ [] → (push.watch ≡ []) × (push.calls ≡ 0) → Serving user most 0 0 push x x f
serving_start {user} {most} {push} x f none off = record {
  turns = [];
  stand = record {
    took = Takes-nil x.link.left;
    later = omega arith;
    fit = tt;
    told = subst (λ (l : List Front). TurnsTold x.clock x.clock [] l x.desk x.desk []) (sym none) (told_none x.clock [] x.desk);
    sent = Sends-nil x.link.sent;
  };
  count = refl;
  replied = refl;
  watch = off.0;
  calls = off.1;
  room = omega arith;
  looks = (let none_made = off.1 in omega (arith, none_made));
}

pub over_of : (b : Bool) (n m : ℕ) → b ≡ nat_lt n m → b ≡ true → n < m
over_of b n m is holds = (let h : nat_lt n m ≡ true = sym is ∙ holds in search (arith, nat_tests, h))

pub within_of : (b : Bool) (n m : ℕ) → b ≡ nat_lt n m → b ≡ false → m ≤ n
within_of b n m is fails = (let h : nat_lt n m ≡ false = sym is ∙ fails in search (arith, nat_tests, h))

rose_more : {a b c : ℕ} → a ≤ b → Rose b c → Rose a c
rose_more {a} {b} {c} h r = omega arith

pushed : (turns : List Turn) (t : Turn) (text : Option (List ℕ)) → taken_by_turn t ≡ as_messages text → taken_in turns ++ as_messages text ≡ taken_in (turns ++ t ∷ [])
pushed turns t text is = ap (λ (ms : List WsMessage). taken_in turns ++ ms) (sym is ∙ sym (append-nil (taken_by_turn t))) ∙ sym (flat_map-append taken_by_turn turns (t ∷ []))

none_behind : (turns : List Turn) → taken_in turns ≡ taken_in (turns ++ [])
none_behind turns = ap taken_in (sym (append-nil turns))

module _ {user : User} where
  -- the link gave messages
  taken_more : {taken : List WsMessage} {turns : List Turn} {x y : SocketSetting} {l : LinkShown} {f : List Front} (ms : List WsMessage)
      → Stand user taken turns x y f → TakesMessages y.link.left l.left ms → l.sent ≡ y.link.sent → y.link.faults ≤ l.faults → Stand user (taken ++ ms) turns x (setting l y.clock y.desk) f
  taken_more {taken} {turns} {x} {y} {l} {f} ms st took same later = record {
    took = Takes-trans x.link.left y.link.left l.left taken ms st.took took;
    later = (let before = st.later in omega (arith, before, later));
    fit = st.fit;
    told = st.told;
    sent = subst (λ (o : Option (List (List ℕ))). SendsTexts x.link.sent o (sent_in turns)) (sym same) st.sent;
  }

  -- the link is as it was
  link_kept : {taken : List WsMessage} {turns : List Turn} {x y : SocketSetting} {l : LinkShown} {f : List Front}
      → Stand user taken turns x y f → l.left ≡ y.link.left → l.sent ≡ y.link.sent → y.link.faults ≤ l.faults → Stand user taken turns x (setting l y.clock y.desk) f
  link_kept {taken} {turns} {x} {y} {l} {f} st left same later =
      subst (λ (ms : List WsMessage). Stand user ms turns x (setting l y.clock y.desk) f) (append-nil taken)
      (taken_more [] st (subst (λ (o : Option (List WsMessage)). TakesMessages y.link.left o []) (sym left) (Takes-nil y.link.left)) same later)

module _ {user : User} {most : ℕ} where
  -- the end, with what may be unfinished
  finish : {taken : List WsMessage} {turns : List Turn} {replies : ℕ} {x y : SocketSetting} {c : Option (ℕ → ℤ)} {u d : Shown} {f f' : List Front} {e : WsEnd} (unfinished : List Turn)
      → Stand user taken turns x y f → length (replies_in turns) ≡ replies → TurnsTold y.clock c f f' y.desk u unfinished → replies + length (replies_in unfinished) ≤ most
      → length (made_in_looks turns) + sum_by look_size unfinished ≤ MAX_LOOK_CALLS
      → SocketEndHow user most taken turns unfinished x (setting y.link c d) u e → SocketRests e u d → Ends user most x (setting y.link c d) f' replies e
  finish {taken} {turns} {replies} {x} {y} {c} {u} {d} {f} {f'} {e} unfinished st count told room looks how rests served fronts same is = record {
    taken = taken;
    turns = turns;
    unfinished = unfinished;
    took = st.took;
    later = st.later;
    count = count ∙ sym same;
    room = omega (arith, room, same);
    looks = looks;
    fit = st.fit;
    desk = u;
    told = subst (λ (l : List Front). TurnsTold x.clock c [] l x.desk u (turns ++ unfinished)) (sym fronts) (told_join x.clock y.clock c [] f f' x.desk y.desk u turns unfinished st.told told);
    rests = subst (λ (z : WsEnd). SocketRests z u d) (sym is) rests;
    sent = st.sent;
    how = subst (SocketEndHow user most taken turns unfinished x (setting y.link c d) u) (sym is) how;
  }

  module _ {n replies : ℕ} {push : Push} {x y : SocketSetting} {f : List Front} (v : Serving user most n replies push x y f) where
    idle_room : replies + length (replies_in []) ≤ most
    idle_room = (let room = v.room in omega (arith, room))

    idle_looks : length (made_in_looks v.turns) + sum_by look_size [] ≤ MAX_LOOK_CALLS
    idle_looks = (let calls = v.calls in let looks = v.looks in omega (arith, calls, looks))

    -- ---- no turn was had

    -- the link gave nothing, or what ends a socket
    pub given_up : {l : LinkShown} (e : WsEnd) → IsNextText y.link l (Err e) → l.sent ≡ y.link.sent → y.link.faults ≤ l.faults → Ends user most x (setting l y.clock y.desk) f replies e
    given_up end.Closed how same later = finish [] (taken_more [] v.stand how.0 same later) v.replied (told_none y.clock f y.desk) idle_room idle_looks ((refl, refl), how.1) refl
    given_up end.Binary how same later = finish [] (taken_more (Binary ∷ []) v.stand how same later) v.replied (told_none y.clock f y.desk) idle_room idle_looks (refl, refl) refl
    given_up end.LinkFault how same later =
        finish [] (link_kept v.stand how.0 same later) v.replied (told_none y.clock f y.desk) idle_room idle_looks (inl refl, none_behind v.turns, rose_more v.stand.later how.1) refl
    given_up end.NoMemory how same later =
        finish [] (link_kept v.stand how same later) v.replied (told_none y.clock f y.desk) idle_room idle_looks (inl (refl, refl), none_behind v.turns) tt
    given_up end.Quota how same later = absurd how
    given_up end.PassSpent how same later = absurd how

    spent_so : IsSpent user most v.turns → Ends user most x (setting y.link y.clock y.desk) f replies end.Quota
    spent_so spent = finish [] v.stand v.replied (told_none y.clock f y.desk) idle_room idle_looks ((refl, sym (append-nil (taken_in v.turns))), spent) refl

    pub texts_spent : most ≤ replies → Ends user most x (setting y.link y.clock y.desk) f replies end.Quota
    texts_spent all = spent_so (inl (let replied = v.replied in let room = v.room in omega (arith, replied, room, all)))

    pub looks_spent : MAX_LOOK_CALLS < push.calls + length push.watch → Ends user most x (setting y.link y.clock y.desk) f replies end.Quota
    looks_spent over = spent_so (inr (inl (let calls = v.calls in let watch = ap length v.watch in omega (arith, calls, watch, over))))

    pub turns_spent : MAX_TURNS ≤ n → n ≤ MAX_TURNS → Ends user most x (setting y.link y.clock y.desk) f replies end.Quota
    turns_spent all within = spent_so (inr (inr (let count = v.count in omega (arith, count, all, within))))

    accounts_same : y.desk.accounts ≡ x.desk.accounts
    accounts_same = accounts_stay _ _ _ v.stand.told.chain

    pub still_granted : All (λ (g : Grant). g.account < x.desk.accounts) user.grants → All (λ (g : Grant). g.account < y.desk.accounts) user.grants
    still_granted h = subst (λ (k : ℕ). All (λ (g : Grant). g.account < k) user.grants) (sym accounts_same) h

    pub still_watched : All (λ (g : Grant). g.account < x.desk.accounts) user.grants → All (λ (w : Watched). w.account < y.desk.accounts) push.watch
    still_watched h = subst (λ (ws : List Watched). All (λ (w : Watched). w.account < y.desk.accounts) ws) (sym v.watch) (watched_within user y.desk.accounts (still_granted h) v.turns v.stand.fit)

    -- ---- a turn was had, of what the link gave

    after_taking : {l : LinkShown} (text : Option (List ℕ)) → TakesMessages y.link.left l.left (as_messages text) → l.sent ≡ y.link.sent → y.link.faults ≤ l.faults
        → Stand user (taken_in v.turns ++ as_messages text) v.turns x (setting l y.clock y.desk) f
    after_taking text took same later = taken_more (as_messages text) v.stand took same later

    one_room : (t : Turn) → replies < most → replies + length (replies_in (t ∷ [])) ≤ most
    one_room t less = (let one = few_replies t in let all = ap length (append-nil (reply_of t)) in omega (arith, less, one, all))

    one_look : (t : Turn) → push.calls + length push.watch ≤ MAX_LOOK_CALLS → look_size t ≤ length push.watch → length (made_in_looks v.turns) + sum_by look_size (t ∷ []) ≤ MAX_LOOK_CALLS
    one_look t few size = (let calls = v.calls in omega (arith, few, calls, size))

    begun_here : (e : DeskError) (t : Turn) (u d : Shown) → TurnBegun user push.watch e u d t → TurnBegun user (watched_behind_all user v.turns) e u d t
    begun_here e t u d begun = subst (λ (ws : List Watched). TurnBegun user ws e u d t) v.watch begun

    fits_here : (t : Turn) → TurnFits user push.watch t → TurnFits user (watched_behind_all user v.turns) t
    fits_here t fit = subst (λ (ws : List Watched). TurnFits user ws t) v.watch fit

    module _ {l : LinkShown} {c : Option (ℕ → ℤ)} {d : Shown} {f' : List Front} {push' : Push} (text : Option (List ℕ))
        (less : replies < most) (few : push.calls + length push.watch ≤ MAX_LOOK_CALLS)
        (took : TakesMessages y.link.left l.left (as_messages text)) (same : l.sent ≡ y.link.sent) (later : y.link.faults ≤ l.faults) where
      -- the desk answered no more
      pub stopped : (e : DeskError) → TakesTurn user text push push' y.clock c f f' y.desk d (Err e) → Ends user most x (setting l c d) f' replies (end_of_desk e)
      stopped reason.PassSpent h =
          finish (h.turn ∷ []) (after_taking text took same later) v.replied h.told (one_room h.turn less) (one_look h.turn few h.size)
          ((h.turn, refl, begun_here reason.PassSpent h.turn h.desk d h.how), pushed v.turns h.turn text h.takes) tt
      stopped reason.NoMemory h =
          finish (h.turn ∷ []) (after_taking text took same later) v.replied h.told (one_room h.turn less) (one_look h.turn few h.size)
          (inr (h.turn, refl, begun_here reason.NoMemory h.turn h.desk d h.how), pushed v.turns h.turn text h.takes) tt

      module _ (said : Said) (h : TakesTurn user text push push' y.clock c f f' y.desk d (Ok said)) where
        -- what the turn sends wasn't sent
        pub unsent : {k : LinkShown} (e : LinkError) → k.left ≡ l.left → k.sent ≡ l.sent → l.faults ≤ k.faults → (e ≡ fault.Failed → Rose l.faults k.faults) → (texts_said said ≡ [] → ⊥)
            → Ends user most x (setting k c d) f' replies (end_of_link e)
        unsent {k} fault.Failed left kept after rose speaks =
            finish (h.turn ∷ []) (link_kept (after_taking text took same later) left kept after) v.replied h.told (one_room h.turn less) (one_look h.turn few h.size)
            (inr (h.turn, refl, fits_here h.turn h.how.0.fit), pushed v.turns h.turn text h.takes, rose_more (let before = v.stand.later in omega (arith, before, later)) (rose refl)) h.how.1
        unsent {k} fault.NoMemory left kept after rose speaks =
            finish (h.turn ∷ []) (link_kept (after_taking text took same later) left kept after) v.replied h.told (one_room h.turn less) (one_look h.turn few h.size)
            (inr (h.turn, refl, unsaid_turn user (watched_behind_all user v.turns) h.desk d h.turn (fits_here h.turn h.how.0.fit) h.how.1 (λ none. speaks (h.how.0.says ∙ none))), pushed v.turns h.turn text h.takes) tt

        -- it was sent
        pub goes_on : {k : LinkShown} (replies' : ℕ) → k.left ≡ l.left → SendsTexts l.sent k.sent (texts_said said) → l.faults ≤ k.faults → replies' ≡ length (replies_said said)
            → Serving user most (n + 1) (replies + replies') push' x (setting k c d) f'
        goes_on {k} replies' left more after so_many =
            let st = after_taking text took same later in
            let had = h.how.0 in
            let ts = v.turns ++ h.turn ∷ [] in
            let one = few_replies h.turn in
            record {
              turns = ts;
              stand = record {
                took = subst (TakesMessages x.link.left k.left) (pushed v.turns h.turn text h.takes) (subst (λ (o : Option (List WsMessage)). TakesMessages x.link.left o (taken_in v.turns ++ as_messages text)) (sym left) st.took);
                later = (let before = st.later in omega (arith, before, after));
                fit = fit_more user [] v.turns h.turn v.stand.fit (fits_here h.turn had.fit);
                told = subst (λ (z : Shown). TurnsTold x.clock c [] f' x.desk z ts) (sym h.how.1) (told_join x.clock y.clock c [] f f' x.desk y.desk h.desk v.turns (h.turn ∷ []) v.stand.told h.told);
                sent = subst (SendsTexts x.link.sent k.sent) (ap (λ (s : List (List ℕ)). sent_in v.turns ++ s) (had.says ∙ sym (append-nil (sent_by h.turn))) ∙ sym (flat_map-append sent_by v.turns (h.turn ∷ [])))
                    (Sends-trans x.link.sent l.sent k.sent (sent_in v.turns) (texts_said said) st.sent more);
              };
              count = (let count = v.count in length-append v.turns (h.turn ∷ []) ∙ omega (arith, count));
              replied = (
                  let all = ap length (flat_map-append reply_of v.turns (h.turn ∷ [])) ∙ length-append (replies_in v.turns) (replies_in (h.turn ∷ [])) in
                  let last = ap length (append-nil (reply_of h.turn)) in
                  let said_so = ap length had.replies in
                  let before = v.replied in
                  omega (arith, all, last, said_so, before, so_many)
                  );
              watch = had.watch ∙ (ap (λ (ws : List Watched). watched_after user ws h.turn) v.watch ∙ sym (fold-append (watched_after user) [] v.turns (h.turn ∷ [])));
              calls = (
                  let all = ap length (flat_map-append made_in_look v.turns (h.turn ∷ [])) ∙ length-append (made_in_looks v.turns) (made_in_looks (h.turn ∷ [])) in
                  let last = ap length (append-nil (made_in_look h.turn)) in
                  let now = had.calls in
                  let before = v.calls in
                  omega (arith, all, last, now, before)
                  );
              room = (let said_so = ap length had.replies in omega (arith, less, one, said_so, so_many));
              looks = (let now = had.calls in let made = looks_few h.turn in let size = h.size in omega (arith, few, now, made, size));
            }
