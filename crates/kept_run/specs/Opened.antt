-- The accounts of a site that go on from what a keeper has of them.
use Rattle.std.specs.Prelude.{◌≡◌, ◌==◌, ℕ, List, All, Option, None, map, not}
use Rattle.std.specs.List.{position}
use Rattle.account_desk.specs.FreshDesk.{bases}
use Rattle.cal_model.specs.GoesOn.{GoesOn}
use Rattle.journal_keeper.specs.Journals.{Kept, Lists}
use Rattle.spec_history.specs.Base.{Base}
use Rattle.spec_history.specs.History.{changes_of}
use Rattle.spec_history.specs.declared.entry.Entry.{Entry}
use Rattle.spec_site.specs.Configuration.{Site}
use Rattle.spec_site.specs.TimeZones.{ZoneText}

-- the place of the first entry of another author than the desk's
abbrev pub foreign_place : List Entry → Option ℕ
foreign_place es = position (λ e. not (e.author == 0)) es

-- a run goes on from these entries: an account does, and they are all of the desk's author
pub record RunGoesOn (zones : List ZoneText) (es : List Entry) : Type 0 where
  pub own : foreign_place es ≡ None
  pub goes_on : GoesOn zones (changes_of es)

-- an account has just the entries that the keeper has of it, from which a run goes on
pub record HasGoodList (told : Option Kept) (a : Base × List Entry) : Type 0 where
  pub listed : Lists told a.0.account_id a.1
  pub good : RunGoesOn a.0.zones a.1

-- these are the accounts of a site, each with the entries that the keeper has of it
pub record AreOpened (site : Site) (told : Option Kept) (accounts : List (Base × List Entry)) : Type 0 where
  pub bases : map (λ a. a.0) accounts ≡ bases site
  pub go_on : All (HasGoodList told) accounts
