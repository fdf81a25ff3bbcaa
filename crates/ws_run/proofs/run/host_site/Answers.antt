use Rattle.std.proofs.Common.{inl, inr, refl, rules}
use Rattle.ws_run.proofs.RunLemmas.{has_hosted}
use Rattle.ws_run.proofs.run.host_site.Goals as goal

pub returns-in-Err-Failed : goal.returns-in-Err-Failed
returns-in-Err-Failed g c = inl (c.in-Err-Failed.ensures.in_vain (search rules), c.in-Err-Failed.ensures.failed (search rules), (c.in-Err-Failed.ensures.sockets, refl))

pub returns-in-Err-NoMemory : goal.returns-in-Err-NoMemory
returns-in-Err-NoMemory g c = inl (c.in-Err-NoMemory.ensures.sockets, refl)

pub returns-in-All : goal.returns-in-All
returns-in-All g c = has_hosted c.in-Ok.ensures.ok c.in-Ok.ensures.sockets c.in-Ok.ensures.asked c.in-Ok.ensures.later c.requires c.in-All.ensures

pub returns-in-AcceptFault : goal.returns-in-AcceptFault
returns-in-AcceptFault g c = inr (has_hosted c.in-Ok.ensures.ok c.in-Ok.ensures.sockets c.in-Ok.ensures.asked c.in-Ok.ensures.later c.requires c.in-AcceptFault.ensures)

pub returns-in-NoMemory : goal.returns-in-NoMemory
returns-in-NoMemory g c = inr (has_hosted c.in-Ok.ensures.ok c.in-Ok.ensures.sockets c.in-Ok.ensures.asked c.in-Ok.ensures.later c.requires c.in-NoMemory.ensures)
