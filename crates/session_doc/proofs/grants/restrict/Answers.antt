use Rattle.std.proofs.Common.{sym, ◌∙◌}
use Rattle.session_doc.proofs.Restricting.{restrict_absent, restrict_again, restrict_first}
use Rattle.session_doc.proofs.grants.restrict.Goals as goal

pub returns-in_default : goal.returns-in_default
returns-in_default c = restrict_absent c.args.id.now c.args.grants.now (sym c.place_of_grant.ensures.place ∙ c.in_default.is)

pub returns-then-grant : goal.returns-then-grant
returns-then-grant c = restrict_again c.args.id.now c.args.grants.now c.in-Some.n c.index-grants-n.result (sym c.place_of_grant.ensures.place ∙ c.in-Some.is) c.if-grant.true

pub returns : goal.returns
returns c = restrict_first c.args.id.now c.args.grants.now c.in-Some.n c.index-grants-n.result (sym c.place_of_grant.ensures.place ∙ c.in-Some.is) c.if-grant.false
