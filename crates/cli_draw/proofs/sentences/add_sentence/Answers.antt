use Rattle.cli_draw.proofs.sentences.add_sentence.Goals as goal

pub returns-in-AlikeNames : goal.returns-in-AlikeNames
returns-in-AlikeNames g c = rw c.in-AlikeNames.is c.add-in-AlikeNames.ensures

pub returns-in-TooManyRungs : goal.returns-in-TooManyRungs
returns-in-TooManyRungs g c = rw c.in-TooManyRungs.is c.add-in-TooManyRungs.ensures

pub returns-in-TooManyBlocks : goal.returns-in-TooManyBlocks
returns-in-TooManyBlocks g c = rw c.in-TooManyBlocks.is c.add-in-TooManyBlocks.ensures

pub returns-in-NotFaithful : goal.returns-in-NotFaithful
returns-in-NotFaithful g c = rw c.in-NotFaithful.is c.add-in-NotFaithful.ensures
