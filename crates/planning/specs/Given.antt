-- A lent policy as the definitions see it. Assumes nothing.
use Rattle.planning.specs.declared.Policy.{Policy as Lent}
use Rattle.planning.specs.Policy.{Policy, policy_of}

-- how many people there are, and the sets in the two lists
abbrev pub lists_of : Lent → Policy
lists_of p = policy_of p.people p.required.now p.forbidden.now
