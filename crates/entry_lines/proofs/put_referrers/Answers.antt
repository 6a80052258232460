use Rattle.entry_lines.proofs.Relations.{referrers_none, referrers_some}
use Rattle.entry_lines.proofs.put_referrers.Goals as goal

pub returns-in-None : goal.returns-in-None
returns-in-None c = referrers_none c.next_referrer.ensures c.first_referrer-first.ensures c.put_byte-n.ensures c.in-None.is c.put_byte.ensures

pub returns-in-Some : goal.returns-in-Some
returns-in-Some c = referrers_some c.next_referrer.ensures c.first_referrer-first.ensures c.put_byte-n.ensures c.in-Some.is c.put_decimal-a.ensures c.put_more.ensures
