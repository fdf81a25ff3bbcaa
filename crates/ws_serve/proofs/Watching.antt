-- What is watched are states of accounts that the user may use.
use Rattle.std.proofs.Common.{◌≡◌, ℕ, ◌<◌, List, [], ◌∷◌, ◌++◌, Bool, true, false, Option, Some, None, refl, sym, ap, ◌∙◌, subst, append-nil, fold}
use Rattle.std.specs.Prelude.{All, flat_map}
use Rattle.std.specs.Option.{option_map_or}
use Rattle.std.proofs.lemmas.List.Elements.{All-append, All-cons, All-head, All-nil, All-tail}
use Rattle.spec_batch.specs.Chain.{Made}
use Rattle.spec_core.specs.declared.user.Grant.{Grant}
use Rattle.spec_core.specs.declared.user.User.{User}
use Rattle.spec_history.specs.declared.entry.Kind.{Kind}
use Rattle.spec_history.specs.declared.entry.Kind.TheVariants.{Calendar, Event}
use Rattle.spec_push.specs.Looks.{Sight, all_behind, watched_behind, watched_of}
use Rattle.spec_push.specs.StateChanges.{once_told}
use Rattle.spec_push.specs.Watching.{watched_anew, watched_anew_if, watched_in}
use Rattle.spec_push.specs.declared.data_types.DataTypes.{DataTypes}
use Rattle.spec_push.specs.declared.watched.Watched.{Watched}
use Rattle.spec_sockets.specs.Switches.{switch_in_text}
use Rattle.spec_sockets.specs.Turns.{AllTurnsFit, Turn, TurnFits, looked, replied, switched, watched_after, watched_behind_all, watched_by}
use Rattle.spec_sockets.specs.declared.switch.Switch.{Switch}
use Rattle.spec_sockets.specs.declared.switch.Switch.TheVariants.{Disable, Enable}

module _ (n : ℕ) where
  abbrev IsWithin : Watched → Type 0
  IsWithin w = w.account < n

  abbrev Within : List Watched → Type 0
  Within ws = All IsWithin ws

  if_within : (wanted : Bool) (g : Grant) (kind : Kind) → g.account < n → Within (watched_anew_if wanted g kind)
  if_within true g kind h = All-cons IsWithin (watched_anew g kind) [] h (All-nil IsWithin)
  if_within false g kind h = All-nil IsWithin

  for_grants : (types : DataTypes) (gs : List Grant) → All (λ (g : Grant). g.account < n) gs → Within (flat_map (watched_in types) gs)
  for_grants types [] h = All-nil IsWithin
  for_grants types (g ∷ gs) h =
      let here : g.account < n = All-head (λ (x : Grant). x.account < n) g gs h in
      All-append IsWithin (watched_in types g) (flat_map (watched_in types) gs)
      (All-append IsWithin (watched_anew_if types.calendars g Calendar) (watched_anew_if types.events g Event) (if_within types.calendars g Calendar here) (if_within types.events g Event here))
      (for_grants types gs (All-tail (λ (x : Grant). x.account < n) g gs h))

  by_switch : (user : User) (s : Switch) → All (λ (g : Grant). g.account < n) user.grants → Within (watched_by user s)
  by_switch user (Enable types) h = for_grants types user.grants h
  by_switch user Disable h = All-nil IsWithin

  one_behind : (w : Watched) (made : Option Made) → w.account < n → (option_map_or (λ (m : Made). once_told w m.reply) made w).account < n
  one_behind w None h = h
  one_behind w (Some m) h = h

  behind_look : (sights : List Sight) → Within (watched_of sights) → Within (all_behind sights)
  behind_look [] h = All-nil IsWithin
  behind_look (s ∷ ss) h = All-cons IsWithin (watched_behind s) (all_behind ss) (one_behind s.watched s.made (All-head IsWithin s.watched (watched_of ss) h)) (behind_look ss (All-tail IsWithin s.watched (watched_of ss) h))

  after_turn : (user : User) (watch : List Watched) (t : Turn) → All (λ (g : Grant). g.account < n) user.grants → TurnFits user watch t → Within watch → Within (watched_after user watch t)
  after_turn user watch (replied t) granted fit h = h
  after_turn user watch (switched asking moment) granted fit h =
      subst (λ (o : Option Switch). Within (option_map_or (watched_by user) o watch)) (sym fit.1) (by_switch user fit.0 granted)
  after_turn user watch (looked l moment) granted fit h =
      behind_look l.sights (subst Within (fit.0.over ∙ (ap (λ (ws : List Watched). watched_of l.sights ++ ws) fit.1 ∙ append-nil (watched_of l.sights))) h)

  after_turns : (user : User) (watch : List Watched) (ts : List Turn) → All (λ (g : Grant). g.account < n) user.grants → AllTurnsFit user watch ts → Within watch → Within (fold (watched_after user) watch ts)
  after_turns user watch [] granted fit h = h
  after_turns user watch (t ∷ ts) granted fit h = after_turns user (watched_after user watch t) ts granted fit.1 (after_turn user watch t granted fit.0 h)

pub watched_within : (user : User) (n : ℕ) → All (λ (g : Grant). g.account < n) user.grants → (ts : List Turn) → AllTurnsFit user [] ts → All (λ (w : Watched). w.account < n) (watched_behind_all user ts)
watched_within user n granted ts fit = after_turns n user [] ts granted fit (All-nil (λ (w : Watched). w.account < n))
