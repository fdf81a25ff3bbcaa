use Rattle.std.proofs.Common.{◌≡◌, ◌≤◌, pos, ap, sym, subst, ◌∙◌}
use Rattle.spec_calls.specs.declared.call.Call.{Call}
use Rattle.spec_calls.specs.declared.call.Reply.{Reply}
use Rattle.workload.proofs.work.ask_page.Goals as goal
use Rattle.workload.specs.Counts.{count_of_ids}
use Rattle.workload.specs.Generated.{page_call}

pub page_of-requires : goal.page_of-requires
page_of-requires g c =
    let base = g.B.Book.base c.args.account.now in
    let h = g.B.Book.entries c.args.account.now in
    let is : c.in_ok-reply.reply ≡ g.B.Book.answer base h (page_call c.args.since) (pos 0) = c.in_ok-reply.ensures.reply ∙ ap (λ (call : Call). g.B.Book.answer base h call (pos 0)) c.page_call.ensures in
    subst (λ (r : Reply). count_of_ids r ≤ 500) (sym is) (c.requires.lead.few base h c.args.since)
