use Rattle.shop_desk.proofs.desk_calls.handle_with_text_at.Goals as goal

pub returns-clause-step : goal.returns-clause-step
returns-clause-step g c = λ clean_disk m held well_formed. (c.handle_message.ensures.timed clean_disk m held well_formed).handled
