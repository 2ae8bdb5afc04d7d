use Rattle.shop_forms.proofs.EntriesBack.{kept_message_back, history_back, story_back}
use Rattle.shop_forms.proofs.laws.entries_read_back.Goals as goal

pub returns-clause-message : goal.returns-clause-message
returns-clause-message c = λ message h. kept_message_back message h

pub returns-clause-history : goal.returns-clause-history
returns-clause-history c = λ entries more h. history_back entries more h

pub returns-clause-story : goal.returns-clause-story
returns-clause-story c = λ entries more h. story_back entries more h
