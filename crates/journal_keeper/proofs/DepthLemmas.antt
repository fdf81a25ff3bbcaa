-- How deep entries nest.
use Rattle.std.proofs.Common.{◌≤◌, arith}
use Rattle.journal_keeper.specs.EntryText.{IsKeepable, entry_data}
use Rattle.spec_history.specs.declared.entry.Entry.{Entry}
use Rattle.spec_json.specs.Data.{depth}

-- an entry that can be kept isn't too deep to be read
pub entry_depth : (e : Entry) → IsKeepable e → depth (entry_data e) ≤ 127
entry_depth e k = let h = k.shallow in grind (arith, h)
