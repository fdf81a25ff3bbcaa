use Rattle.std.proofs.Common.{◌∷◌, [], ◌∙◌, ap, codes, map}
use Rattle.spec_json.specs.Data.{members_of, object}
use Rattle.spec_json.specs.TreeData.{keyed}
use Rattle.spec_site.specs.SessionObject.{capabilities}
use Rattle.session_doc.proofs.session.leading.Goals as goal

pub returns : goal.returns
returns c =
    ap (map keyed) c.in_ok-members.ensures.items
    ∙ (λ i. (codes "accounts", object (members_of (c.in_ok-accounts_object.ensures i))) ∷ (codes "apiUrl", c.in_ok-api.ensures i) ∷ (codes "capabilities", (c.in_ok-known.ensures ∙ ap capabilities c.web_socket_url.ensures) i)
    ∷ (codes "downloadUrl", c.in_ok-download.ensures i) ∷ [])
