use Rattle.std.proofs.Common.{sym, ◌∙◌}
use Rattle.workload.proofs.Pages.{few_last, few_more, last_page, more_pages}
use Rattle.workload.proofs.work.+count_changed.Goals as goal

pub returns-in-None-clause-pages : goal.returns-in-None-clause-pages
returns-in-None-clause-pages g t c =
    let base = g.B.Book.base c.args.account.now in
    let h = g.B.Book.entries c.args.account.now in
    last_page g.B.Book.answer g.B.Book.added c.requires.lead base h h c.args.since (sym c.in_ok-ids.ensures.next ∙ c.in-None.is) c.in_ok-ids.field-0.ids c.in_ok-ids.ensures.ids

pub returns-in-None-clause-few : goal.returns-in-None-clause-few
returns-in-None-clause-few g t c =
    let base = g.B.Book.base c.args.account.now in
    let h = g.B.Book.entries c.args.account.now in
    few_last g.B.Book.answer g.B.Book.added c.requires.lead base h h c.args.since c.in_ok-ids.field-0.ids c.in_ok-ids.ensures.ids

pub returns-in_ok-count_changed-in-Some-clause-pages : goal.returns-in_ok-count_changed-in-Some-clause-pages
returns-in_ok-count_changed-in-Some-clause-pages g t c =
    let base = g.B.Book.base c.args.account.now in
    let h = g.B.Book.entries c.args.account.now in
    more_pages g.B.Book.answer g.B.Book.added c.requires.lead base h (g.B.Book.entries c.ask_page.new.account) c.args.since c.in-Some.state (sym c.in_ok-ids.ensures.next ∙ c.in-Some.is)
    (g.B.Book.base c.ask_page.new.account) c.in_ok-ids.ensures.base c.in_ok-ids.ensures.entries c.in_ok-ids.field-0.ids c.in_ok-count_changed-in-Some.field-0 c.in_ok-ids.ensures.ids c.in_ok-count_changed-in-Some.ensures.pages

pub returns-in_ok-count_changed-in-Some-clause-few : goal.returns-in_ok-count_changed-in-Some-clause-few
returns-in_ok-count_changed-in-Some-clause-few g t c =
    let base = g.B.Book.base c.args.account.now in
    let h = g.B.Book.entries c.args.account.now in
    few_more g.B.Book.answer g.B.Book.added c.requires.lead base h (g.B.Book.entries c.ask_page.new.account) c.args.since c.in-Some.state c.requires.short (sym c.in_ok-ids.ensures.next ∙ c.in-Some.is)
    c.in_ok-ids.ensures.entries c.in_ok-ids.field-0.ids c.in_ok-count_changed-in-Some.field-0 c.in_ok-ids.ensures.ids c.in_ok-count_changed-in-Some.ensures.few
