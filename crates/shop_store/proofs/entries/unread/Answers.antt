use Rattle.shop_store.proofs.entries.unread.Goals as goal

pub returns-in-Some-clause-found : goal.returns-in-Some-clause-found
returns-in-Some-clause-found g c clean b was =
    let none = c.in_ok-invalid_entry.ensures.none clean b was in
    absurd (let is = c.in-Some.is in cc)
