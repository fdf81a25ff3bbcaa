-- What the histories of accounts come to that workers share, once all of them have ended.
use Rattle.std.specs.Prelude.{◌≡◌, ◌<◌, ◌++◌, ℕ, List, All, Some, length, map, slice_get}
use Rattle.std.specs.List.{AllZip}
use Rattle.account_lock.specs.Lock.{IsTicketLock, PassView, TicketLock}
use Rattle.listen_workers.specs.Posts.{AreCallsOf, EndedWorker}
use Rattle.spec_batch.specs.Chain.{Made, Rules, SummaryOn, on}
use Rattle.spec_history.specs.Base.{Base}
use Rattle.spec_history.specs.declared.entry.Entry.{Entry}
use Rattle.spec_site.specs.Configuration.{Site}

-- The history is the opening and then the entries of just these calls, a list of calls for each worker, which signs with its number: the calls of each stand in the history one behind
-- the other, each at a prefix that what came of it follows, and of the worker's entries there came theirs, each once, and no other.
pub record IsOfCalls (rules : Rules) (base : Base) (opened history : List Entry) (calls : List (List Made)) : Type 0 where
  pub added : List Entry
  pub begins : history ≡ opened ++ added
  pub signed : All (λ e. e.author < length calls) added
  pub each : (n : ℕ) (made : List Made) → slice_get calls n ≡ Some made → (last : ℕ) × SummaryOn rules base n opened history 0 last made

module _ {site : Site} {most : ℕ} (workers : List (EndedWorker site most)) (k : ℕ) where
  -- each worker knew the opening of account k before its first call, and signs there with its number
  abbrev pub ShareAccount : Rules → Base → List Entry → Type 0
  ShareAccount rules base opened = (n : ℕ) (w : EndedWorker site most) → slice_get workers n ≡ Some w
      → (w.tools.desk.rules ≡ rules) × (w.tools.desk.base k ≡ base) × (w.tools.desk.seen k ≡ opened) × (w.tools.desk.author k ≡ n) × (w.tools.desk.last k ≡ 0)

  -- the passes of the account's lock are those of the workers, each with its worker's number, and have seen what their workers' desks know at the end
  abbrev pub ArePassesOf : List PassView → Type 0
  ArePassesOf views = (length views ≡ length workers) × ((n : ℕ) (v : PassView) (w : EndedWorker site most) → slice_get views n ≡ Some v → slice_get workers n ≡ Some w
      → (v.number ≡ n) × (v.seen ≡ w.tools'.desk.seen k))

-- Whatever workers ended, of connections and of sockets, there are calls of each, with the fronts of its connections or of its sockets. In any state of an account's lock in which the passes are those that the workers left,
-- the account's history is that of just these calls.
abbrev pub HistoriesAreOfCalls : {B : Type 0} → (B → List Entry) → (B → Base) → Type 0
HistoriesAreOfCalls {B} entries base_of = (site : Site) (most : ℕ) (workers : List (EndedWorker site most))
    → (calls : List (List Made)) × AllZip (λ w made. AreCallsOf w made) workers calls
    × ((k : ℕ) (rules : Rules) (base : Base) (opened : List Entry) (l : TicketLock B) (lock : IsTicketLock entries base_of opened base l)
    → ShareAccount workers k rules base opened → ArePassesOf workers k l.views → IsOfCalls rules base opened lock.history (map (on k) calls))
