-- What a connection comes to where neither its source nor its sink fails and its desk may make more calls.
use Rattle.std.specs.Prelude.{◌≡◌, ◌≢◌, ℕ, ◌<◌, List, [], ◌++◌, Some, IfSome, length, ⊤}
use Rattle.std.specs.Io.KnownBytes.{Consumes, IsAtEnd}
use Rattle.spec_http.specs.Messages.{Message}
use Rattle.spec_http.specs.Pipeline.{Ending, EndsAs, Reads, undecided, bad_head, close_asked, quota_spent}
use Rattle.spec_connection.specs.Serving.{Serves, Setting, refusal_text}
use Rattle.spec_connection.specs.Exchanges.{AllFit, Told, Exchange, all_bytes, messages_of}
use Rattle.spec_history.specs.MostTurns.{most_turns}
use Rattle.io_edge.specs.Outside.{Grows, Rose}
use Rattle.spec_site.specs.Configuration.{Site}
use Rattle.spec_connection.specs.declared.served.ConnEnd.{ConnEnd}
use Rattle.spec_connection.specs.declared.served.ConnEnd.TheVariants as end
use Rattle.spec_connection.specs.declared.served.Served.{Served}

-- the bytes of a connection of at most `most` messages hold just these, with this left behind them, and end so
abbrev pub Holds : ℕ → List ℕ → List Message → List ℕ → Ending → Type 0
Holds most bytes ms left ending = Reads bytes ms left × EndsAs most (length ms) ms left ending

-- neither the source nor the sink failed, and the desk may make more calls
pub record IsUnharmed (x x' : Setting) : Type 0 where
  pub read : Rose x.source.faults x'.source.faults → ⊥
  pub wrote : Rose x.sink.faults x'.sink.faults → ⊥
  pub may_call : x'.desk.turns < most_turns

module _ (site : Site) (most : ℕ) (x x' : Setting) (served : Served) where
  -- all messages of the bytes that were taken were answered, and the sink got their responses, this text behind them, and nothing else
  pub record AllAnswered (behind : List ℕ) (ending : Ending) (text : List ℕ) : Type 0 where
    pub taken : List ℕ
    pub exchanges : List Exchange
    pub consumed : Consumes x.source.left x'.source.left taken
    pub count : length exchanges ≡ served.requests
    pub holds : Holds most taken (messages_of exchanges) behind ending
    -- the messages and the end are those of all bytes that the source had, where it tells them
    pub holds_told : IfSome x.source.left (λ bytes. (rest : List ℕ) × Holds most bytes (messages_of exchanges) rest ending)
    pub fit : AllFit site most 0 exchanges
    pub told : Told x.clock x'.clock [] served.fronts.items x.desk x'.desk exchanges
    pub written : Grows x.sink.holds x'.sink.holds (all_bytes exchanges ++ text)

  -- the connection ended as its bytes do, or out of memory
  abbrev pub EndsWithBytes : ConnEnd → Type 0
  EndsWithBytes end.Closed = AllAnswered [] undecided [] × IsAtEnd x'.source.left
  EndsWithBytes end.Truncated = (behind : List ℕ) × (0 < length behind) × AllAnswered behind undecided [] × IsAtEnd x'.source.left
  EndsWithBytes end.CloseAsked = (behind : List ℕ) × AllAnswered behind close_asked []
  EndsWithBytes (end.BadHead status) = (behind : List ℕ) × AllAnswered behind (bad_head status) (refusal_text status)
  EndsWithBytes end.Quota = (behind : List ℕ) × AllAnswered behind quota_spent []
  EndsWithBytes end.ReadFault = ⊥
  EndsWithBytes end.WriteFault = ⊥
  EndsWithBytes end.PassSpent = ⊥
  EndsWithBytes end.NoMemory = ⊤

abbrev pub FaultlessConnectionsAreAnswered : Type 0
FaultlessConnectionsAreAnswered = (site : Site) (most : ℕ) (x x' : Setting) (served : Served) → Serves site most x x' served → IsUnharmed x x' → EndsWithBytes site most x x' served served.end

-- where reading failed, the bytes that were taken hold neither a message that asks to close, nor a head that is refused, nor the last message of so many
abbrev pub ReadFaultsComeLast : Type 0
ReadFaultsComeLast = (site : Site) (most : ℕ) (x x' : Setting) (served : Served) → (s : Serves site most x x' served) → served.end ≡ end.ReadFault
    → (ms : List Message) (left : List ℕ) (ending : Ending) → Holds most s.taken ms left ending → ending ≡ undecided

-- A connection whose source had these bytes answered these messages and ended so. Neither source nor sink failed, the desk may make more calls, and it didn't run out of memory.
pub record IsFaultless (most : ℕ) (bytes : List ℕ) (ms : List Message) (e : ConnEnd) : Type 0 where
  pub site : Site
  pub before : Setting
  pub after : Setting
  pub served : Served
  pub given : before.source.left ≡ Some bytes
  pub serves : Serves site most before after served
  pub answered : messages_of serves.exchanges ≡ ms
  pub ended : served.end ≡ e
  pub unharmed : IsUnharmed before after
  pub had_memory : e ≢ end.NoMemory

-- its messages and its end are a function of the bytes, whatever the site, the sink, the desk and the clock are
abbrev pub FaultlessConnectionsAreDetermined : Type 0
FaultlessConnectionsAreDetermined = (most : ℕ) (bytes : List ℕ) (ms ns : List Message) (e f : ConnEnd) → IsFaultless most bytes ms e → IsFaultless most bytes ns f → (ms ≡ ns) × (e ≡ f)
