-- A lent deal as the definitions see it. Assumes nothing.
use Rattle.planning.specs.Given.{lists_of}
use Rattle.dealing.specs.declared.asked.Deal.{Deal as Lent}
use Rattle.dealing.specs.Deal.{Deal, deal_from}

-- the policy with its lists, the number and the year, and the words of the secret and of the randomness
abbrev pub deal_in : Lent → Deal
deal_in d = deal_from (lists_of d.policy) d.number d.year d.secret.now d.random.now
