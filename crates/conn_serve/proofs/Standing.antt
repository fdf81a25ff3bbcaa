-- Where the loop of a connection stands, and what each of its ends says.
use Rattle.std.proofs.Common.{◌≡◌, ℕ, ℤ, ◌+◌, ◌<◌, ◌≤◌, List, [], ◌∷◌, ◌++◌, length, length-append, take, Bool, true, false, Option, Ok, Err, Vec, inl, inr, refl, sym, ap, ◌∙◌, subst, append-nil, append_assoc, arith}
use Rattle.std.specs.Prelude.{◌⊎◌}
use Rattle.std.proofs.KnownBytes.{Consumes-nil, Consumes-trans}
use Rattle.std.proofs.lemmas.Grind.{flat_map-append}
use Rattle.std.proofs.lemmas.List.{map-append}
use Rattle.std.specs.Io.KnownBytes.{Consumes}
use Rattle.std.specs.declared.alloc.Global.{Global}
use Rattle.io_edge.proofs.OutsideLemmas.{Grows-nil, Grows-trans}
use Rattle.spec_batch.proofs.Chains.{accounts_stay}
use Rattle.spec_batch.specs.Chain.{Shown}
use Rattle.spec_http.specs.Messages.{Message, whole, BeginsWith, IsUndecided}
use Rattle.spec_http.specs.Pipeline.{AllOpen, Reads, bad_head, undecided}
use Rattle.spec_http.specs.declared.limits.TheConstants.{PIECE}
use Rattle.spec_connection.specs.Serving.{AskedLast, EndHow, IsUnanswered, Rests, Serves, Setting, Whole, end_for, refusal_cut, refusal_text, response_cut}
use Rattle.spec_connection.specs.Exchanges.{AllFit, Begun, Fits, Told, Exchange, all_bytes, closes, messages_of}
use Rattle.io_edge.specs.Outside.{Grows, GrowsByPrefix, Rose, SinkShown, SourceShown}
use Rattle.spec_site.specs.Configuration.{Site}
use Rattle.spec_batch.specs.declared.desk.DeskError.{DeskError}
use Rattle.spec_batch.specs.declared.desk.DeskError.TheVariants as desk
use Rattle.spec_batch.specs.declared.desk.Front.{Front}
use Rattle.spec_connection.specs.declared.served.ConnEnd.{ConnEnd}
use Rattle.spec_connection.specs.declared.served.ConnEnd.TheVariants as end
use Rattle.spec_connection.specs.declared.served.Served.{Served}
use Rattle.conn_serve.proofs.Exchanging.{fit_more, told_join, told_none}
use Rattle.conn_serve.specs.Answering.{AnswerHow, AnswersMessage}
use Rattle.conn_serve.specs.Ending.{IsRefusalEnd, RefusalHow}
use Rattle.http_edge.proofs.Pipelines.{open_snoc, reads_more, reads_snoc}
use Rattle.http_edge.specs.Reading.{AskedWhile, GivesNext, message_shown}
use Rattle.http_edge.specs.declared.message.Message.{Message as Taken}
use Rattle.http_edge.specs.declared.next.Next.{Next}
use Rattle.http_edge.specs.declared.next.Next.TheVariants as next

abbrev pub setting : SourceShown → SinkShown → Option (ℕ → ℤ) → Shown → Setting
setting source sink clock shown = record { source = source; sink = sink; clock = clock; desk = shown }

-- what is put together of these fronts, so many responses and this end says how the connection was served
abbrev pub Ends : Site → ℕ → Setting → Setting → List Front → ℕ → ConnEnd → Type 0
Ends site most x x' fronts requests e = (served : Served) → served.fronts.items ≡ fronts → served.requests ≡ requests → served.end ≡ e → Serves site most x x' served

-- the bytes that were taken are these messages and what is behind them, and the source was asked only while that was undecided
pub record Came (taken : List ℕ) (ms : List Message) (behind : List ℕ) : Type 0 where
  pub reads : Reads taken ms behind
  pub asked : (taken ≡ []) ⊎ AskedLast taken ms

-- the messages that were answered, and what is kept behind them
pub record Reading (most i : ℕ) (taken : List ℕ) (ms : List Message) (kept : List ℕ) : Type 0 where
  pub came : Came taken ms kept
  pub all_open : AllOpen ms
  pub room : i ≤ most

module _ (site : Site) (most : ℕ) where
  -- all that was done so far
  pub record Stand (taken : List ℕ) (exchanges : List Exchange) (i : ℕ) (x x' : Setting) (fronts : List Front) : Type 0 where
    pub consumed : Consumes x.source.left x'.source.left taken
    pub source_later : x.source.faults ≤ x'.source.faults
    pub sink_later : x.sink.faults ≤ x'.sink.faults
    pub count : length exchanges ≡ i
    pub fit : AllFit site most 0 exchanges
    pub told : Told x.clock x'.clock [] fronts x.desk x'.desk exchanges
    pub written : Grows x.sink.holds x'.sink.holds (all_bytes exchanges)

  -- i messages were answered
  pub record Serving (i : ℕ) (x x' : Setting) (fronts : List Front) (kept : List ℕ) : Type 0 where
    pub taken : List ℕ
    pub exchanges : List Exchange
    pub reading : Reading most i taken (messages_of exchanges) kept
    pub stand : Stand taken exchanges i x x' fronts

module _ {site : Site} {most : ℕ} where
  pub serving_start : (x : Setting) (f : List Front) (kept : List ℕ) → f ≡ [] → kept ≡ [] → Serving site most 0 x x f kept
  serving_start x f kept none e = record {
    taken = [];
    exchanges = [];
    reading = subst (Reading most 0 [] []) (sym e) (record { came = record { reads = refl; asked = inl refl }; all_open = tt; room = omega arith });
    stand = record {
      consumed = Consumes-nil x.source.left;
      source_later = omega arith;
      sink_later = omega arith;
      count = refl;
      fit = tt;
      told = subst (λ (l : List Front). Told x.clock x.clock [] l x.desk x.desk []) (sym none) (told_none x.clock [] x.desk);
      written = Grows-nil x.sink.holds;
    };
  }

  taken_more : {taken : List ℕ} {exchanges : List Exchange} {i : ℕ} {x y : Setting} {s : SourceShown} {f : List Front} (t : List ℕ)
      → Stand site most taken exchanges i x y f → Consumes y.source.left s.left t → y.source.faults ≤ s.faults → Stand site most (taken ++ t) exchanges i x (setting s y.sink y.clock y.desk) f
  taken_more {taken} {exchanges} {i} {x} {y} {s} {f} t st consumed later = record {
    consumed = Consumes-trans x.source.left y.source.left s.left taken t st.consumed consumed;
    source_later = omega (arith, st.source_later, later);
    sink_later = st.sink_later;
    count = st.count;
    fit = st.fit;
    told = st.told;
    written = st.written;
  }

  exchange_more : {taken : List ℕ} {exchanges : List Exchange} {i : ℕ} {x y : Setting} {k : SinkShown} {c : Option (ℕ → ℤ)} {d : Shown} {f f' : List Front} (t : Exchange)
      → Stand site most taken exchanges i x y f → Told y.clock c f f' y.desk d (t ∷ []) → Fits site (closes most i t.message) t → Grows y.sink.holds k.holds t.bytes → y.sink.faults ≤ k.faults
      → Stand site most taken (exchanges ++ t ∷ []) (i + 1) x (setting y.source k c d) f'
  exchange_more {taken} {exchanges} {i} {x} {y} {k} {c} {d} {f} {f'} t st told fits more later = record {
    consumed = st.consumed;
    source_later = st.source_later;
    sink_later = omega (arith, st.sink_later, later);
    count = (let e = st.count in length-append exchanges (t ∷ []) ∙ omega arith);
    fit = (let at : i ≡ 0 + length exchanges = omega (arith, st.count) in fit_more site most 0 exchanges t st.fit (subst (λ (n : ℕ). Fits site (closes most n t.message) t) at fits));
    told = told_join x.clock y.clock c [] f f' x.desk y.desk d exchanges (t ∷ []) st.told told;
    written = subst (Grows x.sink.holds k.holds) (sym (flat_map-append (λ (u : Exchange). u.bytes) exchanges (t ∷ []) ∙ ap (λ (l : List ℕ). all_bytes exchanges ++ l) (append-nil t.bytes))) (Grows-trans x.sink.holds y.sink.holds k.holds _ _ st.written more);
  }

  -- the end, with what may stand unwritten and what is written behind the responses
  finish : {taken : List ℕ} {exchanges : List Exchange} {i : ℕ} {x y : Setting} {k : SinkShown} {c : Option (ℕ → ℤ)} {u d : Shown} {f f' : List Front} {e : ConnEnd} (unwritten : List Exchange) (tail behind : List ℕ)
      → Stand site most taken exchanges i x y f → Told y.clock c f f' y.desk u unwritten → Came taken (messages_of (exchanges ++ unwritten)) behind → i + length unwritten ≤ most → Grows y.sink.holds k.holds tail → y.sink.faults ≤ k.faults
      → EndHow site most exchanges unwritten tail behind x (setting y.source k c d) u e → Rests e u d → Ends site most x (setting y.source k c d) f' i e
  finish {taken} {exchanges} {i} {x} {y} {k} {c} {u} {d} {f} {f'} {e} unwritten tail behind st told came room written later how rests served fronts requests is = record {
    taken = taken;
    exchanges = exchanges;
    unwritten = unwritten;
    tail = tail;
    behind = behind;
    consumed = st.consumed;
    source_later = st.source_later;
    sink_later = omega (arith, st.sink_later, later);
    count = st.count ∙ sym requests;
    room = omega (arith, room, requests);
    in_order = came.reads;
    asked = came.asked;
    fit = st.fit;
    desk = u;
    told = subst (λ (l : List Front). Told x.clock c [] l x.desk u (exchanges ++ unwritten)) (sym fronts) (told_join x.clock y.clock c [] f f' x.desk y.desk u exchanges unwritten st.told told);
    rests = subst (λ (z : ConnEnd). Rests z u d) (sym is) rests;
    written = Grows-trans x.sink.holds y.sink.holds k.holds _ _ st.written written;
    how = subst (EndHow site most exchanges unwritten tail behind x (setting y.source k c d) u) (sym is) how;
  }

rose_more : {a b c : ℕ} → a ≤ b → Rose b c → Rose a c
rose_more {a} {b} {c} h r = omega arith

pushed : (exchanges : List Exchange) (t : Exchange) (m : Message) → t.message ≡ m → messages_of exchanges ++ m ∷ [] ≡ messages_of (exchanges ++ t ∷ [])
pushed exchanges t m is = ap (λ (x : Message). messages_of exchanges ++ x ∷ []) (sym is) ∙ sym (map-append (λ (x : Exchange). x.message) exchanges (t ∷ []))

same_behind : (kept a b : List ℕ) → kept ++ a ≡ kept ++ b → a ≡ b
same_behind [] a b e = e
same_behind (x ∷ kept) a b e = (let rest : kept ++ a ≡ kept ++ b = cc in same_behind kept a b rest)

-- more bytes came
asked_more : {taken kept : List ℕ} {ms : List Message} {s s' : SourceShown} (more : List ℕ) → Reads taken ms kept → (taken ≡ []) ⊎ AskedLast taken ms → AskedWhile IsUndecided PIECE s s' kept (kept ++ more) → (taken ++ more ≡ []) ⊎ AskedLast (taken ++ more) ms
asked_more {taken} {kept} {ms} more r asked (inl h) =
    let none : more ≡ [] = same_behind kept more [] (h.0 ∙ sym (append-nil kept)) in
    let same : taken ++ more ≡ taken = ap (λ (l : List ℕ). taken ++ l) none ∙ append-nil taken in
    subst (λ (l : List ℕ). (l ≡ []) ⊎ AskedLast l ms) (sym same) asked
asked_more {taken} {kept} {ms} more r asked (inr h) =
    let parts : more ≡ h.0 ++ h.1 = same_behind kept more (h.0 ++ h.1) (h.2 ∙ append_assoc kept h.0 h.1) in
    inr (record {
      earlier = taken ++ h.0;
      last = h.1;
      parts = ap (λ (l : List ℕ). taken ++ l) parts ∙ sym (append_assoc taken h.0 h.1);
      few = h.3;
      came = ms;
      later = [];
      messages = sym (append-nil ms);
      rest = kept ++ h.0;
      reads = reads_more taken ms kept h.0 r;
      waits = h.4;
    })

asked_snoc : {taken : List ℕ} {ms : List Message} (m : Message) → (taken ≡ []) ⊎ AskedLast taken ms → (taken ≡ []) ⊎ AskedLast taken (ms ++ m ∷ [])
asked_snoc m (inl none) = inl none
asked_snoc m (inr a) = inr (record {
  earlier = a.earlier;
  last = a.last;
  parts = a.parts;
  few = a.few;
  came = a.came;
  later = a.later ++ m ∷ [];
  messages = ap (λ (l : List Message). l ++ m ∷ []) a.messages ∙ append_assoc a.came a.later (m ∷ []);
  rest = a.rest;
  reads = a.reads;
  waits = a.waits;
})

came_more : {taken kept new : List ℕ} {ms : List Message} {s s' : SourceShown} {r : Next} → Came taken ms kept → (g : GivesNext s s' kept new r) → Came (taken ++ g.taken) ms (kept ++ g.taken)
came_more {taken} {kept} {new} {ms} c g = record { reads = reads_more taken ms kept g.taken c.reads; asked = asked_more g.taken c.reads c.asked g.asked }

came_snoc : {taken behind new : List ℕ} {ms : List Message} (m : Message) → Came taken ms behind → BeginsWith behind (whole m new) → Came taken (ms ++ m ∷ []) new
came_snoc {taken} {behind} {new} {ms} m c e = record { reads = reads_snoc taken ms behind m new c.reads e; asked = asked_snoc m c.asked }

-- where nothing stands unwritten
none_behind : (taken behind : List ℕ) (exchanges : List Exchange) → Came taken (messages_of exchanges) behind → Came taken (messages_of (exchanges ++ [])) behind
none_behind taken behind exchanges c = subst (λ (l : List Exchange). Came taken (messages_of l) behind) (sym (append-nil exchanges)) c

one_behind : (taken behind : List ℕ) (m : Message) (new : List ℕ) (exchanges : List Exchange) (t : Exchange) → t.message ≡ m → Came taken (messages_of exchanges) behind → BeginsWith behind (whole m new) → Came taken (messages_of (exchanges ++ t ∷ [])) new
one_behind taken behind m new exchanges t is c e = subst (λ (l : List Message). Came taken l new) (pushed exchanges t m is) (came_snoc m c e)

module _ {site : Site} {most i : ℕ} {x y : Setting} {f : List Front} {kept : List ℕ} where
  -- what stands behind is undecided
  waiting : (v : Serving site most i x y f kept) → i < most → (behind : List ℕ) → IsUndecided behind → Whole site most v.exchanges [] [] behind undecided []
  waiting v h behind u = record { ends = (omega (arith, v.stand.count, h), v.reading.all_open, u); all_written = refl; closing = refl }

module _ {site : Site} {most i : ℕ} {x y : Setting} {s : SourceShown} {f : List Front} {kept new : List ℕ} where
  pub closed : Serving site most i x y f kept → i < most → GivesNext y.source s kept new next.End → Ends site most x (setting s y.sink y.clock y.desk) f i end.Closed
  closed v h g =
      let now = came_more v.reading.came g in
      finish [] [] (kept ++ g.taken) (taken_more g.taken v.stand g.consumed g.later) (told_none y.clock f y.desk) (none_behind _ _ v.exchanges now) (omega (arith, v.reading.room)) (Grows-nil y.sink.holds) (omega arith)
      (waiting v h (kept ++ g.taken) (inl g.how.0), g.how.0, g.how.2) refl

  pub truncated : Serving site most i x y f kept → i < most → GivesNext y.source s kept new next.Truncated → Ends site most x (setting s y.sink y.clock y.desk) f i end.Truncated
  truncated v h g =
      let now = came_more v.reading.came g in
      finish [] [] (kept ++ g.taken) (taken_more g.taken v.stand g.consumed g.later) (told_none y.clock f y.desk) (none_behind _ _ v.exchanges now) (omega (arith, v.reading.room)) (Grows-nil y.sink.holds) (omega arith)
      (waiting v h (kept ++ g.taken) (inr g.how.0), g.how.0.0, g.how.2) refl

  pub read_fault : Serving site most i x y f kept → i < most → GivesNext y.source s kept new next.ReadFault → Ends site most x (setting s y.sink y.clock y.desk) f i end.ReadFault
  read_fault v h g =
      let now = came_more v.reading.came g in
      finish [] [] (kept ++ g.taken) (taken_more g.taken v.stand g.consumed g.later) (told_none y.clock f y.desk) (none_behind _ _ v.exchanges now) (omega (arith, v.reading.room)) (Grows-nil y.sink.holds) (omega arith)
      (waiting v h (kept ++ g.taken) g.how.0, rose_more v.stand.source_later g.how.2) refl

  pub no_memory : {r : Next} → Serving site most i x y f kept → GivesNext y.source s kept new r → Ends site most x (setting s y.sink y.clock y.desk) f i end.NoMemory
  no_memory v g =
      let now = came_more v.reading.came g in
      finish [] [] (kept ++ g.taken) (taken_more g.taken v.stand g.consumed g.later) (told_none y.clock f y.desk) (none_behind _ _ v.exchanges now) (omega (arith, v.reading.room)) (Grows-nil y.sink.holds) (omega arith)
      (inr (refl, refl, refl), v.reading.all_open) tt

module _ {site : Site} {most i : ℕ} {x y : Setting} {s : SourceShown} {k : SinkShown} {f : List Front} {kept new : List ℕ} {status : ℕ} where
  refused_how : (v : Serving site most i x y f kept) → i < most → GivesNext y.source s kept new (next.BadHead status) → y.sink.faults ≤ k.faults → (e : ConnEnd) → RefusalHow y.sink k status e
      → Ends site most x (setting s k y.clock y.desk) f i e
  refused_how v h g later (end.BadHead z) how =
      let now = came_more v.reading.came g in
      let all : Whole site most v.exchanges [] (refusal_text status) (kept ++ g.taken) (bad_head status) (refusal_text status) = record { ends = (omega (arith, v.stand.count, h), v.reading.all_open, g.how.0); all_written = refl; closing = refl } in
      subst (λ (n : ℕ). Ends site most x (setting s k y.clock y.desk) f i (end.BadHead n)) (sym how.0)
      (finish [] (refusal_text status) (kept ++ g.taken) (taken_more g.taken v.stand g.consumed g.later) (told_none y.clock f y.desk) (none_behind _ _ v.exchanges now) (omega (arith, v.reading.room)) how.1 later all refl)
  refused_how v h g later end.WriteFault how =
      let now = came_more v.reading.came g in
      let part = take how.0.0 (refusal_text status) in
      let all : Whole site most v.exchanges [] part (kept ++ g.taken) (bad_head status) part = record { ends = (omega (arith, v.stand.count, h), v.reading.all_open, g.how.0); all_written = refl; closing = refl } in
      finish [] part (kept ++ g.taken) (taken_more g.taken v.stand g.consumed g.later) (told_none y.clock f y.desk) (none_behind _ _ v.exchanges now) (omega (arith, v.reading.room)) how.0.2 later
      (refusal_cut status part all (how.0.0, how.0.1, refl), v.reading.all_open, rose_more v.stand.sink_later how.1) refl
  refused_how v h g later end.NoMemory how =
      let now = came_more v.reading.came g in
      finish [] [] (kept ++ g.taken) (taken_more g.taken v.stand g.consumed g.later) (told_none y.clock f y.desk) (none_behind _ _ v.exchanges now) (omega (arith, v.reading.room))
      (subst (λ (o : Option (List ℕ)). Grows y.sink.holds o []) (sym how) (Grows-nil y.sink.holds)) later (inr (refl, refl, refl), v.reading.all_open) tt
  refused_how v h g later end.Closed how = absurd how
  refused_how v h g later end.CloseAsked how = absurd how
  refused_how v h g later end.Truncated how = absurd how
  refused_how v h g later end.Quota how = absurd how
  refused_how v h g later end.ReadFault how = absurd how
  refused_how v h g later end.PassSpent how = absurd how

  pub refused_here : {e : ConnEnd} → Serving site most i x y f kept → i < most → GivesNext y.source s kept new (next.BadHead status) → IsRefusalEnd y.sink k status e
      → Ends site most x (setting s k y.clock y.desk) f i e
  refused_here {e} v h g r = refused_how v h g r.later e r.how

module _ {site : Site} {most i : ℕ} {x y : Setting} {f : List Front} {kept : List ℕ} {m : Taken} {close : Bool} where
  unanswered_how : (v : Serving site most i x y f kept) (t : Exchange) (behind : List ℕ) → t.message ≡ message_shown m → close ≡ closes most i (message_shown m) → (e : DeskError) (u d : Shown) → Begun site close t e u d
      → IsUnanswered site most v.exchanges (t ∷ []) [] behind e u d
  unanswered_how v t behind is closing e u d begun =
      let at : close ≡ closes most (length v.exchanges) t.message = closing ∙ (λ j. closes most (sym v.stand.count j) (sym is j)) in
      record { exchange = t; is_unwritten = refl; begun = subst (λ (b : Bool). Begun site b t e u d) at begun; silent = refl }

module _ {site : Site} {most i : ℕ} {x y : Setting} {s : SourceShown} {c : Option (ℕ → ℤ)} {u d : Shown} {f f' : List Front} {kept new : List ℕ} {m : Taken} {close : Bool} where
  stopped_how : (v : Serving site most i x y f kept) → i < most → GivesNext y.source s kept new (next.Message m) → (a : Exchange) → a.message ≡ message_shown m → Told y.clock c f f' y.desk u (a ∷ [])
      → close ≡ closes most i (message_shown m) → (e : DeskError) → AnswerHow site close u d a (Err e) → Ends site most x (setting s y.sink c d) f' i (end_for e)
  stopped_how v h g a is told closing desk.PassSpent how =
      let now = came_more v.reading.came g in
      finish (a ∷ []) [] new (taken_more g.taken v.stand g.consumed g.later) told (one_behind _ _ (message_shown m) new v.exchanges a is now g.how) (omega (arith, h)) (Grows-nil y.sink.holds) (omega arith)
      (unanswered_how v a new is closing desk.PassSpent u d how, v.reading.all_open) tt
  stopped_how v h g a is told closing desk.NoMemory how =
      let now = came_more v.reading.came g in
      finish (a ∷ []) [] new (taken_more g.taken v.stand g.consumed g.later) told (one_behind _ _ (message_shown m) new v.exchanges a is now g.how) (omega (arith, h)) (Grows-nil y.sink.holds) (omega arith)
      (inl (unanswered_how v a new is closing desk.NoMemory u d how), v.reading.all_open) tt

module _ {site : Site} {most i : ℕ} {x y : Setting} {s : SourceShown} {c : Option (ℕ → ℤ)} {d : Shown} {f f' : List Front} {kept new : List ℕ} {m : Taken} {close : Bool} where
  -- the message wasn't answered
  pub stopped_inside : {e : DeskError} → Serving site most i x y f kept → i < most → GivesNext y.source s kept new (next.Message m) → close ≡ closes most i (message_shown m)
      → AnswersMessage site close (message_shown m) y.clock c f f' y.desk d (Err e) → Ends site most x (setting s y.sink c d) f' i (end_for e)
  stopped_inside {e} v h g closing a = stopped_how v h g a.exchange a.is a.told closing e a.how

module _ {site : Site} {m : Taken} {close : Bool} where
  fits_here : (most i : ℕ) (t : Exchange) (k : ℕ) → t.message ≡ message_shown m → close ≡ closes most i (message_shown m) → i ≡ k → Fits site close t → Fits site (closes most k t.message) t
  fits_here most i t k is closing at fits = subst (λ (b : Bool). Fits site b t) (closing ∙ (λ j. closes most (at j) (sym is j))) fits

module _ {site : Site} {most i : ℕ} {x y : Setting} {s : SourceShown} {k : SinkShown} {c : Option (ℕ → ℤ)} {d : Shown} {f f' : List Front} {kept new piece : List ℕ} {m : Taken} {close : Bool} {bytes : Vec ℕ Global} where
  pub write_fault : Serving site most i x y f kept → i < most → GivesNext y.source s kept new (next.Message m) → close ≡ closes most i (message_shown m)
      → AnswersMessage site close (message_shown m) y.clock c f f' y.desk d (Ok bytes) → GrowsByPrefix y.sink.holds k.holds piece → piece ≡ bytes.items → y.sink.faults ≤ k.faults → Rose y.sink.faults k.faults
      → Ends site most x (setting s k c d) f' i end.WriteFault
  write_fault v h g closing a part given later rose =
      let now = came_more v.reading.came g in
      let cut : GrowsByPrefix y.sink.holds k.holds a.exchange.bytes = subst (GrowsByPrefix y.sink.holds k.holds) (given ∙ a.how.1) part in
      finish (a.exchange ∷ []) (take cut.0 a.exchange.bytes) new (taken_more g.taken v.stand g.consumed g.later) a.told (one_behind _ _ (message_shown m) new v.exchanges a.exchange a.is now g.how) (omega (arith, h)) cut.2 later
      (response_cut a.exchange refl (fits_here most i a.exchange (length v.exchanges) a.is closing (sym v.stand.count) a.how.0) (cut.0, cut.1, refl), v.reading.all_open, rose_more v.stand.sink_later rose) a.how.2

  one_exchange : (v : Serving site most i x y f kept) (g : GivesNext y.source s kept new (next.Message m)) → close ≡ closes most i (message_shown m)
      → (a : AnswersMessage site close (message_shown m) y.clock c f f' y.desk d (Ok bytes)) → Grows y.sink.holds k.holds piece → piece ≡ bytes.items → y.sink.faults ≤ k.faults
      → Stand site most (v.taken ++ g.taken) (v.exchanges ++ a.exchange ∷ []) (i + 1) x (setting s k c d) f'
  one_exchange v g closing a more given later =
      exchange_more a.exchange (taken_more g.taken v.stand g.consumed g.later) (subst (λ (z : Shown). Told y.clock c f f' y.desk z (a.exchange ∷ [])) (sym a.how.2) a.told)
      (fits_here most i a.exchange i a.is closing refl a.how.0) (subst (Grows y.sink.holds k.holds) (given ∙ a.how.1) more) later

  pub close_asked_here : Serving site most i x y f kept → i < most → GivesNext y.source s kept new (next.Message m) → close ≡ closes most i (message_shown m)
      → AnswersMessage site close (message_shown m) y.clock c f f' y.desk d (Ok bytes) → Grows y.sink.holds k.holds piece → piece ≡ bytes.items → y.sink.faults ≤ k.faults → m.close ≡ true
      → Ends site most x (setting s k c d) f' (i + 1) end.CloseAsked
  close_asked_here v h g closing a more given later asks =
      let now = came_more v.reading.came g in
      let one = one_exchange v g closing a more given later in
      let n_is = one.count in
      finish [] [] new one (told_none c f' d) (none_behind _ _ (v.exchanges ++ a.exchange ∷ []) (one_behind _ _ (message_shown m) new v.exchanges a.exchange a.is now g.how)) (omega (arith, h)) (Grows-nil k.holds) (omega arith)
      (record { ends = (omega (arith, h, n_is), messages_of v.exchanges, message_shown m, sym (pushed v.exchanges a.exchange (message_shown m) a.is), v.reading.all_open, asks); all_written = refl; closing = refl }) refl

  pub goes_on : Serving site most i x y f kept → i < most → GivesNext y.source s kept new (next.Message m) → close ≡ closes most i (message_shown m)
      → AnswersMessage site close (message_shown m) y.clock c f f' y.desk d (Ok bytes) → Grows y.sink.holds k.holds piece → piece ≡ bytes.items → y.sink.faults ≤ k.faults → m.close ≡ false
      → Serving site most (i + 1) x (setting s k c d) f' new
  goes_on v h g closing a more given later other =
      let now = came_more v.reading.came g in
      let ms = messages_of v.exchanges in
      let came : Came (v.taken ++ g.taken) (ms ++ message_shown m ∷ []) new = came_snoc (message_shown m) now g.how in
      record {
        taken = v.taken ++ g.taken;
        exchanges = v.exchanges ++ a.exchange ∷ [];
        reading = subst (λ (l : List Message). Reading most (i + 1) (v.taken ++ g.taken) l new) (pushed v.exchanges a.exchange (message_shown m) a.is)
            (record { came = came; all_open = open_snoc ms (message_shown m) v.reading.all_open other; room = omega (arith, h) });
        stand = one_exchange v g closing a more given later;
      }

module _ {site : Site} {most i : ℕ} {x y : Setting} {f : List Front} {kept : List ℕ} where
  pub quota_reached : Serving site most i x y f kept → most ≤ i → Ends site most x (setting y.source y.sink y.clock y.desk) f most end.Quota
  quota_reached v h =
      let all : i ≡ most = omega (arith, v.reading.room) in
      let stand : Stand site most v.taken v.exchanges most x y f = subst (λ (n : ℕ). Stand site most v.taken v.exchanges n x y f) all v.stand in
      finish [] [] kept stand (told_none y.clock f y.desk) (none_behind _ _ v.exchanges v.reading.came) (omega arith) (Grows-nil y.sink.holds) (omega arith)
      (record { ends = (v.stand.count ∙ all, v.reading.all_open); all_written = refl; closing = refl }) refl

  pub has_accounts : Serving site most i x y f kept → x.desk.accounts ≡ length site.accounts → y.desk.accounts ≡ length site.accounts
  has_accounts v h = accounts_stay _ _ _ v.stand.told.chain ∙ h
