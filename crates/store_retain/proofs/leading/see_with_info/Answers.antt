use Rattle.store_retain.proofs.leading.see_with_info.Goals as goal

pub returns-clause-opened : goal.returns-clause-opened
returns-clause-opened g c = λ except before. c.in_ok-see-2.ensures.opened except (c.in_ok-see.ensures.opened except before)
