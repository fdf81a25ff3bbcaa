use Rattle.std.proofs.Common.{◌≡◌, ◌∙◌, Ok, ap, sym}
use Rattle.spec_site.specs.Configuration.{users_in}
use Rattle.spec_json.specs.TreeData.{data_of}
use Rattle.session_doc.proofs.Granted.{accounts_few, users_few, users_have, users_some}
use Rattle.session_doc.proofs.configuration.read_fields.Goals as goal

pub read_users-requires : goal.read_users-requires
read_users-requires c = rw c.deref.ensures.value (accounts_few (data_of c.args.tree.now) c.in_ok-accounts.accounts.items c.in_ok-accounts.ensures.ok)

pub new-requires-2-clause-few_accounts : goal.new-requires-2-clause-few_accounts
new-requires-2-clause-few_accounts c = accounts_few (data_of c.args.tree.now) c.in_ok-accounts.accounts.items c.in_ok-accounts.ensures.ok

pub new-requires-2-clause-few_users : goal.new-requires-2-clause-few_users
new-requires-2-clause-few_users c = users_few c.deref.result.now (data_of c.args.tree.now) c.in_ok-users.users.items c.in_ok-users.ensures.ok

pub new-requires-2-clause-some_users : goal.new-requires-2-clause-some_users
new-requires-2-clause-some_users c = users_some c.deref.result.now (data_of c.args.tree.now) c.in_ok-users.users.items c.in_ok-users.ensures.ok

pub new-requires-2-clause-granted : goal.new-requires-2-clause-granted
new-requires-2-clause-granted c =
    let d = data_of c.args.tree.now in
    let read : users_in c.in_ok-accounts.accounts.items d ≡ Ok c.in_ok-users.users.items = ap (λ accounts. users_in accounts d) (sym c.deref.ensures.value) ∙ c.in_ok-users.ensures.ok in
    users_have c.in_ok-accounts.accounts.items d c.in_ok-users.users.items read
