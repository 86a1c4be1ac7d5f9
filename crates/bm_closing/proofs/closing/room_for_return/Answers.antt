use Rattle.std.proofs.Common.{◌∙◌, refl}
use Rattle.bm_cache.proofs.Steady.{sound-silent}
use Rattle.bm_closing.proofs.AtEnds.{at-end-still}
use Rattle.bm_closing.proofs.closing.room_for_return.Goals as goal

pub returns-in_err-with_capacity-clause-at_end : goal.returns-in_err-with_capacity-clause-at_end
returns-in_err-with_capacity-clause-at_end g c =
    let h = c.args.host.now in
    let z = c.caches.result.now in
    let k = g.H.Host.with_held h z in
    at-end-still g.R.Recorder.log g.R.Recorder.counts g.H.Host.sound g.H.Host.tests g.H.Host.face g.H.Host.held h k (g.met.H.Host.held_back h z ∙ c.caches.ensures.held) (g.met.H.Host.face_back h z) (g.met.H.Host.tests_back h z) (sound-silent g.H.Host.held g.H.Host.with_held g.R.Recorder.log g.H.Host.sound g.met.H.Host.sound_back h z z c.requires.at_end.sound c.caches.ensures.held refl refl) c.requires.at_end

pub returns-clause-at_end : goal.returns-clause-at_end
returns-clause-at_end g c =
    let h = c.args.host.now in
    let z = c.caches.result.now in
    let k = g.H.Host.with_held h z in
    at-end-still g.R.Recorder.log g.R.Recorder.counts g.H.Host.sound g.H.Host.tests g.H.Host.face g.H.Host.held h k (g.met.H.Host.held_back h z ∙ c.caches.ensures.held) (g.met.H.Host.face_back h z) (g.met.H.Host.tests_back h z) (sound-silent g.H.Host.held g.H.Host.with_held g.R.Recorder.log g.H.Host.sound g.met.H.Host.sound_back h z z c.requires.at_end.sound c.caches.ensures.held refl refl) c.requires.at_end
