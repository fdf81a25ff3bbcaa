-- The turns of a socket, one after the other: a text that is replied to, a text that is a switch, or a look at the states that are watched.
use Rattle.std.specs.Prelude.{◌≡◌, ℕ, ℤ, ◌+◌, List, [], ◌∷◌, ◌++◌, Option, Some, None, flat_map, fold, length, map, ⊤}
use Rattle.std.specs.Option.{option_map_or}
use Rattle.spec_batch.specs.Chain.{Chain, Made, Shown, front_of}
use Rattle.spec_batch.specs.declared.desk.DeskError.{DeskError}
use Rattle.spec_batch.specs.declared.desk.Front.{Front}
use Rattle.spec_connection.specs.Answered.{Ticked}
use Rattle.spec_core.specs.declared.user.User.{User}
use Rattle.spec_push.specs.Looks.{Look, LooksInPart, LooksWhole, all_behind, made_for, sent_for}
use Rattle.spec_push.specs.Watching.{watched_for}
use Rattle.spec_push.specs.declared.watched.Watched.{Watched}
use Rattle.spec_sockets.specs.Exchanges.{TextBegun, TextExchange, TextFits}
use Rattle.spec_sockets.specs.Switches.{switch_in_text}
use Rattle.spec_sockets.specs.declared.message.WsMessage.{WsMessage}
use Rattle.spec_sockets.specs.declared.message.WsMessage.TheVariants.{Text}
use Rattle.spec_sockets.specs.declared.switch.Switch.{Switch}
use Rattle.spec_sockets.specs.declared.switch.Switch.TheVariants.{Disable, Enable}
use Rattle.spec_time.specs.Moments.{clamped}

pub data Turn : Type 0 where
  replied : TextExchange → Turn
  -- the text, and the moment that the clock gave for it
  switched : List ℕ → ℤ → Turn
  -- the look, and the moment that the clock gave for it
  looked : Look → ℤ → Turn

-- ---- what a turn takes, asks for and sends

abbrev pub taken_by_turn : Turn → List WsMessage
taken_by_turn (replied t) = Text t.asking ∷ []
taken_by_turn (switched asking moment) = Text asking ∷ []
taken_by_turn (looked l moment) = []

abbrev pub moment_of : Turn → ℤ
moment_of (replied t) = t.moment
moment_of (switched asking moment) = moment
moment_of (looked l moment) = moment

-- the calls for a text
abbrev pub made_for_text : Turn → List Made
made_for_text (replied t) = t.made
made_for_text (switched asking moment) = []
made_for_text (looked l moment) = []

-- the calls of a look
abbrev pub made_in_look : Turn → List Made
made_in_look (replied t) = []
made_in_look (switched asking moment) = []
made_in_look (looked l moment) = made_for l.sights

abbrev pub made_by : Turn → List Made
made_by t = made_for_text t ++ made_in_look t

abbrev pub reply_of : Turn → List (List ℕ)
reply_of (replied t) = t.reply ∷ []
reply_of (switched asking moment) = []
reply_of (looked l moment) = []

abbrev pub sent_by : Turn → List (List ℕ)
sent_by (replied t) = t.reply ∷ []
sent_by (switched asking moment) = []
sent_by (looked l moment) = sent_for l.sights

abbrev pub taken_in : List Turn → List WsMessage
taken_in turns = flat_map taken_by_turn turns

abbrev pub moments_in : List Turn → List ℤ
moments_in turns = map moment_of turns

abbrev pub made_in_turns : List Turn → List Made
made_in_turns turns = flat_map made_by turns

abbrev pub made_for_texts : List Turn → List Made
made_for_texts turns = flat_map made_for_text turns

abbrev pub made_in_looks : List Turn → List Made
made_in_looks turns = flat_map made_in_look turns

abbrev pub replies_in : List Turn → List (List ℕ)
replies_in turns = flat_map reply_of turns

abbrev pub sent_in : List Turn → List (List ℕ)
sent_in turns = flat_map sent_by turns

-- ---- what is watched

-- for a user behind a switch: all of its types anew, or nothing
abbrev pub watched_by : User → Switch → List Watched
watched_by user (Enable types) = watched_for user types
watched_by user Disable = []

abbrev pub watched_after : User → List Watched → Turn → List Watched
watched_after user watch (replied t) = watch
watched_after user watch (switched asking moment) = option_map_or (watched_by user) (switch_in_text asking) watch
watched_after user watch (looked l moment) = all_behind l.sights

-- at first nothing is watched
abbrev pub watched_behind_all : User → List Turn → List Watched
watched_behind_all user turns = fold (watched_after user) [] turns

-- ---- which turns fit

module _ (user : User) (watch : List Watched) where
  -- where this is watched: the text is no switch, and the reply is its own; the text is a switch; or all that is watched was looked at, or passed over
  abbrev pub TurnFits : Turn → Type 0
  TurnFits (replied t) = (switch_in_text t.asking ≡ None) × TextFits user t
  TurnFits (switched asking moment) = (s : Switch) × (switch_in_text asking ≡ Some s)
  TurnFits (looked l moment) = LooksWhole watch (clamped moment) l

  -- The turn came to no end: the desk answered no more for this reason. In the state u it had answered the calls of the turn, and it was left in the state v.
  abbrev pub TurnBegun : DeskError → Shown → Shown → Turn → Type 0
  TurnBegun e u v (replied t) = TextBegun user e u v t
  TurnBegun e u v (switched asking moment) = ⊥
  TurnBegun e u v (looked l moment) = LooksInPart watch (clamped moment) l e u v

abbrev pub AllTurnsFit : User → List Watched → List Turn → Type 0
AllTurnsFit user watch [] = ⊤
AllTurnsFit user watch (t ∷ ts) = TurnFits user watch t × AllTurnsFit user (watched_after user watch t) ts

-- ---- what they touch

-- What clock, fronts and desk were before and after these turns. The clock is read once for each; all calls together are one chain, and fronts are kept of those for texts.
pub record TurnsTold (clock clock' : Option (ℕ → ℤ)) (fronts fronts' : List Front) (d d' : Shown) (turns : List Turn) : Type 0 where
  pub ticked : Ticked clock clock' (moments_in turns)
  pub added : fronts' ≡ fronts ++ map front_of (made_for_texts turns)
  pub chain : Chain d d' (made_in_turns turns)

-- the most calls that a turn makes to look at states
abbrev pub look_size : Turn → ℕ
look_size (replied t) = 0
look_size (switched asking moment) = 0
look_size (looked l moment) = length l.sights + length l.rest
