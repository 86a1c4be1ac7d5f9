use Rattle.std.proofs.Common.{◌∙◌, refl}
use Rattle.bm_work.proofs.Sides.{onward-same, stands-side}
use Rattle.bm_cache.proofs.Steady.{sound-silent}
use Rattle.bm_work.proofs.leaving.room_for_hand.Goals as goal

pub returns-in_err-with_capacity-clause-stands : goal.returns-in_err-with_capacity-clause-stands
returns-in_err-with_capacity-clause-stands g c =
    let h = c.args.host.now in
    let z = c.caches.result.now in
    let k = g.H.Host.with_held h z in
    stands-side g.R.Recorder.log g.R.Recorder.counts g.H.Host.asked g.H.Host.tests g.H.Host.face g.H.Host.held h k (g.met.H.Host.held_back h z ∙ c.caches.ensures.held) (g.met.H.Host.face_back h z) (sound-silent g.H.Host.held g.H.Host.with_held g.R.Recorder.log g.H.Host.asked g.met.H.Host.asked_back h z z c.requires.stands.sound c.caches.ensures.held refl refl) (onward-same (g.H.Host.tests h) (g.H.Host.tests k) (g.met.H.Host.tests_back h z)) c.requires.stands

pub returns-clause-stands : goal.returns-clause-stands
returns-clause-stands g c =
    let h = c.args.host.now in
    let z = c.caches.result.now in
    let k = g.H.Host.with_held h z in
    stands-side g.R.Recorder.log g.R.Recorder.counts g.H.Host.asked g.H.Host.tests g.H.Host.face g.H.Host.held h k (g.met.H.Host.held_back h z ∙ c.caches.ensures.held) (g.met.H.Host.face_back h z) (sound-silent g.H.Host.held g.H.Host.with_held g.R.Recorder.log g.H.Host.asked g.met.H.Host.asked_back h z z c.requires.stands.sound c.caches.ensures.held refl refl) (onward-same (g.H.Host.tests h) (g.H.Host.tests k) (g.met.H.Host.tests_back h z)) c.requires.stands
