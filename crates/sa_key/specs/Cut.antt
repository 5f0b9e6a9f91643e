-- What a lent cut is: the cut that its holder has.
use Rattle.sa_key.specs.declared.cut.Cut.{Cut}
use Rattle.sa_key.specs.declared.cut.CutRef.{CutRef}

-- the cut that is lent
abbrev pub cut_at : CutRef → Cut
cut_at cut = record { tuple = cut.tuple; side = cut.side }
