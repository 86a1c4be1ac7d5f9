use Rattle.bm_world.specs.ToldLiving.{knows_living}
use Rattle.bm_exec_levels.specs.AtPolls.{polled}
use Rattle.bm_run.proofs.LeftAlone.{left-alone, turn-left}
use Rattle.bm_run.proofs.Spares.{story-spares, waits-spared}
use Rattle.bm_run.proofs.StaysSound.{sound-alone, sound-in-turn}
use Rattle.bm_run.proofs.TurnsTold.{turn-told, unswept-found}
use Rattle.bm_run.proofs.others.others_law.Goals as goal

pub returns-clause-sound : goal.returns-clause-sound
returns-clause-sound c = sound-alone

pub returns-clause-alone : goal.returns-clause-alone
returns-clause-alone c = left-alone

pub returns-clause-spares : goal.returns-clause-spares
returns-clause-spares c = story-spares

pub returns-clause-waits : goal.returns-clause-waits
returns-clause-waits c = waits-spared

pub returns-clause-turn : goal.returns-clause-turn
returns-clause-turn c = turn-left

pub returns-clause-stays : goal.returns-clause-stays
returns-clause-stays c = sound-in-turn

pub returns-clause-told : goal.returns-clause-told
returns-clause-told c = λ closing p since log w before now s tie.
    turn-told (polled knows_living closing since before) p since log w before now s (record { story = tie.story; judged = tie.judged; log_is = tie.log_is; done_is = tie.done_is.0 })

pub returns-clause-unswept : goal.returns-clause-unswept
returns-clause-unswept c = unswept-found
