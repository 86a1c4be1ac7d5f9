-- The free of a drop, plain or with delay.
use Rattle.std.specs.Prelude.{◌≡◌, ℕ, zero, suc, Bool, true, false, is_some, List, [], ◌∷◌, Some, slice_get}
use Rattle.std.proofs.Common.{◌∙◌, ap, inl, inr, refl, sym}
use Rattle.std.proofs.lemmas.Bool.{false≢true}
use Rattle.bm_journal.specs.declared.entry.Entry.{Entry}
use Rattle.bm_lang.specs.declared.scenario.TypeDeclaration.{TypeDeclaration}
use Rattle.bm_law.specs.Phrases.{DelayPhrase, FreePhrase}
use Rattle.bm_law.specs.State.{State}
use Rattle.bm_law_scenario.specs.Held.{Names}
use Rattle.bm_lang.specs.declared.scenario.MapId.{MapId}
use Rattle.bm_graph.specs.declared.ways.Way.{Way}
use Rattle.bm_law_scenario.specs.Calls.{Frees, RunsDrop, RunsGivingUp, RunsPutting, RunsRefused, any_batch, batch_in}
use Rattle.bm_law_scenario.specs.Declared.{Declared}

-- what is known of batches needn't be
pub loosened : (types : List TypeDeclaration) (x : List ℕ) (known : ℕ → Bool → Type 0) (names after : Names) (own : List Entry) → RunsDrop types x known names own after → RunsDrop types x any_batch names own after
loosened types x known names after own h = record {
  type = h.type;
  unit = h.unit;
  life = h.life;
  held = h.held;
  class = h.class;
  declared = h.declared;
  of_class = h.of_class;
  home = h.home;
  batch = h.batch;
  batch_is = tt;
  own = h.own;
  part_is = h.part_is;
  frees = h.frees;
  after_is = h.after_is;
}

pub loosely : (types : List TypeDeclaration) (x : List ℕ) (known : ℕ → Bool → Type 0) (names after : Names) (own : List Entry) → RunsGivingUp types x known names own after → RunsGivingUp types x any_batch names own after
loosely types x known names after own (inl h) = inl h
loosely types x known names after own (inr h) = inr (loosened types x known names after own h)

-- a refused push, by what is known of how its reference is given up
pub refused-by : (d : Declared) (way : Way) (g : MapId) (x : List ℕ) (known other : ℕ → Bool → Type 0) (names after : Names) (own : List Entry) (h : RunsRefused d way g x known names own after) → RunsGivingUp d.types x other names h.own after → RunsRefused d way g x other names own after
refused-by d way g x known other names after own h k = record {
  locked = h.locked;
  declared = h.declared;
  is_graph = h.is_graph;
  id = h.id;
  held = h.held;
  position = h.position;
  owner = h.owner;
  owning = h.owning;
  is_owner = h.is_owner;
  own = h.own;
  part_is = h.part_is;
  gives_up = k;
}

pub putting-loosely : (d : Declared) (way : Way) (g : MapId) (x : List ℕ) (known : ℕ → Bool → Type 0) (names after : Names) (own : List Entry) → RunsPutting d way g x known names own after → RunsPutting d way g x any_batch names own after
putting-loosely d way g x known names after own (inl h) = inl h
putting-loosely d way g x known names after own (inr h) = inr (refused-by d way g x known any_batch names after own h (loosely d.types x known names after h.own h.gives_up))

-- and where it is known it may be said
pub tightened : (types : List TypeDeclaration) (x : List ℕ) (known : ℕ → Bool → Type 0) (names after : Names) (own : List Entry) (h : RunsDrop types x any_batch names own after) → known h.class h.batch → RunsDrop types x known names own after
tightened types x known names after own h k = record {
  type = h.type;
  unit = h.unit;
  life = h.life;
  held = h.held;
  class = h.class;
  declared = h.declared;
  of_class = h.of_class;
  home = h.home;
  batch = h.batch;
  batch_is = k;
  own = h.own;
  part_is = h.part_is;
  frees = h.frees;
  after_is = h.after_is;
}

-- what plain frees and delayed ones have, frees have
pub either-free : (P : List Entry → Type 0) (counted : Bool) (c u home : ℕ) (batch : Bool) (own : List Entry) → (FreePhrase c u home own → P own) → (DelayPhrase c u home batch own → P own) → Frees counted c u home batch own → P own
either-free P false c u home batch own f g h = f h
either-free P true c u home batch own f g h = g h

-- where the type isn't counted the free is a plain one
pub plain-free : (counted : Bool) (c u home : ℕ) (batch : Bool) (own : List Entry) → counted ≡ false → Frees counted c u home batch own → FreePhrase c u home own
plain-free false c u home batch own e h = h
plain-free true c u home batch own e h = absurd (cc)

other-batch : (counted : Bool) (c u home : ℕ) (b d : Bool) (own : List Entry) → counted ≡ false → Frees counted c u home b own → Frees counted c u home d own
other-batch false c u home b d own e h = h
other-batch true c u home b d own e h = absurd (cc)

-- the free of a type without a count says nothing of batches
pub uncounted : (types : List TypeDeclaration) (x : List ℕ) (s : State ℕ) (names after : Names) (own : List Entry) (h : RunsDrop types x any_batch names own after) → h.declared.counted ≡ false → RunsDrop types x (batch_in s) names own after
uncounted types x s names after own h e = record {
  type = h.type;
  unit = h.unit;
  life = h.life;
  held = h.held;
  class = h.class;
  declared = h.declared;
  of_class = h.of_class;
  home = h.home;
  batch = is_some (s.rows h.class).deferred.plain;
  batch_is = refl;
  own = h.own;
  part_is = h.part_is;
  frees = other-batch h.declared.counted h.class h.unit h.home h.batch (is_some (s.rows h.class).deferred.plain) h.own e h.frees;
  after_is = h.after_is;
}

-- no type has a count
abbrev pub NoCounts : List TypeDeclaration → Type 0
NoCounts [] = Unit {0}
NoCounts (t ∷ types) = (t.counted ≡ false) × NoCounts types

pub no-count : (types : List TypeDeclaration) (t : ℕ) (d : TypeDeclaration) → NoCounts types → slice_get types t ≡ Some d → d.counted ≡ false
no-count [] t d h f = absurd (cc)
no-count (x ∷ xs) zero d h f = (let q : x ≡ d = cc in ap (λ (y : TypeDeclaration). y.counted) (sym q) ∙ h.0)
no-count (x ∷ xs) (suc t) d h f = no-count xs t d h.1 f

-- where no type has a count each reference is the last one
pub only-last : (types : List TypeDeclaration) (x : List ℕ) (known : ℕ → Bool → Type 0) (names after : Names) (own : List Entry) → NoCounts types → RunsGivingUp types x known names own after → RunsDrop types x known names own after
only-last types x known names after own loose (inr h) = h
only-last types x known names after own loose (inl h) = absurd (false≢true (sym (no-count types h.type.0 h.of_type.declared loose h.of_type.found) ∙ h.of_type.counted))

-- the free of a type without a count is a plain one
pub plainly : (counted : Bool) (c u home : ℕ) (batch : Bool) (own : List Entry) → counted ≡ false → FreePhrase c u home own → Frees counted c u home batch own
plainly false c u home batch own e h = h
plainly true c u home batch own e h = absurd (cc)

-- code knows of batches by the lists
pub knows-batch : (s : State ℕ) (c : ℕ) → batch_in s c (is_some (s.rows c).deferred.plain)
knows-batch s c = refl
