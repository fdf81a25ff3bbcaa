-- A page of changes.
use Rattle.std.specs.Prelude.{◌≡◌, ℕ, List, Option}
use Rattle.spec_history.specs.Pages.{Mention, created, destroyed, page_end, updated}
use Rattle.object_log.specs.declared.page.Page.{Page}

-- the page from state k that lists at most so many ids
pub record IsPage (ms : List Mention) (k : ℕ) (most : Option ℕ) (page : Page) : Type 0 where
  pub until : page.until ≡ page_end ms k most
  pub created : page.created ≡ created ms k page.until
  pub updated : page.updated ≡ updated ms k page.until
  pub destroyed : page.destroyed ≡ destroyed ms k page.until
