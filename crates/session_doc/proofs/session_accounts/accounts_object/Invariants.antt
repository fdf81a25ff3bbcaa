use Rattle.std.proofs.Common.{◌≡◌, [], drop}
use Rattle.spec_json.specs.Edit.{put_all}
use Rattle.spec_site.specs.SessionObject.{account_members}
use Rattle.session_doc.proofs.SessionMembers.{members_from}
use Rattle.session_doc.proofs.session_accounts.accounts_object.Given as goal

abbrev pub invariant-loop-grant : goal.invariant-loop-grant
invariant-loop-grant l = put_all (members_from l.site l.is_first (drop l.grant-index l.grants)) l.accounts ≡ put_all (account_members l.site l.grants) []
