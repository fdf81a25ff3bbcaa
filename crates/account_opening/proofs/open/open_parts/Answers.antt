use Rattle.std.proofs.lemmas.Result.{IfErr-weaker}
use Rattle.account_opening.proofs.JudgeLemmas.{refused_if_named}
use Rattle.account_opening.specs.Opening.{IsRefusal, NamesUnsound}
use Rattle.spec_history.specs.History.{changes_of}
use Rattle.account_opening.proofs.open.open_parts.Goals as goal

pub returns-clause-refused : goal.returns-clause-refused
returns-clause-refused c =
    let zones = c.args.zones.now in
    let cs = changes_of c.args.loaded.told.items in
    IfErr-weaker c.parts_of.result (NamesUnsound zones cs) (IsRefusal zones cs) (refused_if_named zones cs) c.parts_of.ensures.named
