use Rattle.std.proofs.Common.{◌∙◌, None, slice_index_or, subst}
use Rattle.jmapd.proofs.FolderLemmas.{nameless}
use Rattle.kept_account.specs.Opened.{OpensNot}
use Rattle.kept_run.specs.Steps.{account_base}
use Rattle.jmapd.proofs.folder.not_opened.Goals as goal

pub returns-in-Damaged-clause-refused : goal.returns-in-Damaged-clause-refused
returns-in-Damaged-clause-refused c =
    let why = subst (OpensNot None (account_base c.args.site.now (slice_index_or c.args.site.now.accounts c.args.n nameless).id)) c.in-Damaged.is (c.requires.why nameless) in
    ((c.args.n, c.requires.within, λ d. c.in-Ok.ensures ∙ c.account_id.ensures d), why.0, tt, c.rise-in-Damaged.ensures.rose)

pub returns-in-BadObject-clause-refused : goal.returns-in-BadObject-clause-refused
returns-in-BadObject-clause-refused c =
    let why = subst (OpensNot None (account_base c.args.site.now (slice_index_or c.args.site.now.accounts c.args.n nameless).id)) c.in-BadObject.is (c.requires.why nameless) in
    ((c.args.n, c.requires.within, λ d. c.in-Ok.ensures ∙ c.account_id.ensures d), why)
