-- What the world with the units that live in it tells of what processors share, and what its side did.
use Rattle.std.proofs.Common.{arith, refl, subst, ◌∙◌}
use Rattle.std.specs.Prelude.{◌≡◌, ◌≤◌, ℕ, false, Option, None, Some, List, [], ◌++◌}
use Rattle.bm_law_order.specs.Act.{Act}
use Rattle.bm_law_order.specs.Acts.{ActsLead}
use Rattle.bm_law_order.specs.Graphs.{GraphsLead, graph_names_in, shelf_of}
use Rattle.bm_law_order.specs.Lives.{Life, Lives}
use Rattle.bm_law_order.specs.Made.{Fields, MadeLead}
use Rattle.bm_law_order.specs.Seals.{WaitLeads}
use Rattle.bm_law_order.specs.Shared.{Shared}
use Rattle.bm_law_order.specs.Slots.{SlotsLead, named_in}
use Rattle.bm_law_order.proofs.ActsJoin.{acts-join, acts-same}
use Rattle.bm_law_order.proofs.GraphsJoin.{graphs-join, graphs-same}
use Rattle.bm_law_order.proofs.MadeJoin.{made-join, made-same}
use Rattle.bm_law_order.proofs.SlotsJoin.{slots-join, slots-same}
use Rattle.bm_law_order.proofs.WaitsJoin.{go-join, go-same}
use Rattle.bm_grace.specs.declared.grace.Knows.{Ghosts as Knows}
use Rattle.bm_world.specs.LivingState.{LivingAtRest, LivingState, begun_at, known_living, rights_living}
use Rattle.bm_world.specs.Slots.{object_at, values_of}
use Rattle.bm_world.specs.declared.slots.Object.{Object}
use Rattle.bm_world.specs.Spared.{AllSpare, spare-front, spare-rest}
use Rattle.bm_world.specs.Standings.{standing_at, waits_told}
use Rattle.bm_world.specs.Told.{IsSideOf, OthersBegin, told}

-- the life that a unit has
abbrev pub life_of : Option Object → Option Life
life_of None = None
life_of (Some object) = Some (record { maker = object.unit.home; count = object.count })

-- between two calls no drop is under way
abbrev pub lives_told : LivingState → Lives
lives_told world =
    record {
      begun = begun_at world.begun;
      holds = λ n. life_of (object_at world.slots n);
      dropping = λ p l. None;
    }

abbrev pub told_living : LivingState → Shared
told_living world = told (lives_told world) world.side

pub record LivingDid (p : ℕ) (acts : List Act) (before now : LivingState) : Type 0 where
  pub leads : ActsLead p acts (told_living before) (told_living now)
  pub stays : IsSideOf p now.side
  pub others : OthersBegin p before.side now.side

-- the values with which the lives that units have were made
abbrev pub fields_told : LivingState → Fields
fields_told world = λ n. values_of (object_at world.slots n)

-- by these acts units wait for what they do, their lives are made with these values, slots hold what they do, lists and trees are what they are and
-- have the same names, no fewer calls are counted, and from the side of each processor they lead there
pub record LivingDoes (acts : List Act) (before now : LivingState) : Type 0 where
  pub waits : WaitLeads acts (waits_told before.standings) (waits_told now.standings)
  pub made : MadeLead acts (fields_told before) (fields_told now)
  pub exchanged : SlotsLead acts (named_in before.contents) (named_in now.contents)
  pub called :
      GraphsLead (graph_names_in before.graphs) acts (shelf_of before.graphs) (shelf_of now.graphs)
  pub named : graph_names_in now.graphs ≡ graph_names_in before.graphs
  pub asked : before.asked ≤ now.asked
  pub keeps :
      (n : ℕ) → AllSpare n acts → standing_at now.standings n ≡ standing_at before.standings n
  pub did : (p : ℕ) → IsSideOf p before.side → LivingDid p acts before now

pub living-same : (a : LivingState) → LivingDoes [] a a
living-same a =
    record {
      waits = go-same (waits_told a.standings);
      made = made-same (fields_told a);
      exchanged = slots-same (named_in a.contents);
      called = graphs-same (graph_names_in a.graphs) (shelf_of a.graphs);
      named = refl;
      asked = omega arith;
      keeps = λ n s. refl;
      did =
          λ p s. record
          { leads = acts-same p (told_living a); stays = s; others = λ d q ne. refl };
    }

pub living-join :
    (es fs : List Act) (a b c : LivingState) → LivingDoes es a b → LivingDoes fs b c
    → LivingDoes (es ++ fs) a c
living-join es fs a b c x y = record {
  waits =
      go-join es fs (waits_told a.standings) (waits_told b.standings) (waits_told c.standings)
      x.waits y.waits;
  made = made-join es fs (fields_told a) (fields_told b) (fields_told c) x.made y.made;
  exchanged =
      slots-join es fs (named_in a.contents) (named_in b.contents) (named_in c.contents) x.exchanged
      y.exchanged;
  called =
      graphs-join (graph_names_in a.graphs) es fs (shelf_of a.graphs) (shelf_of b.graphs)
      (shelf_of c.graphs) x.called
      (subst (λ names. GraphsLead names fs (shelf_of b.graphs) (shelf_of c.graphs)) x.named
      y.called);
  named = y.named ∙ x.named;
  asked = (let p = x.asked in let q = y.asked in omega (arith, p, q));
  keeps = λ n s. y.keeps n (spare-rest n es fs s) ∙ x.keeps n (spare-front n es fs s);
  did = λ p s.
      let u = x.did p s in
      let v = y.did p u.stays in
      record {
        leads =
            acts-join p es fs (told_living a) (told_living b) (told_living c) u.leads v.leads;
        stays = v.stays;
        others = λ d q ne. v.others d q ne ∙ u.others d q ne;
      };
}

-- all that this world tells
abbrev pub knows_living : Knows LivingState
knows_living = record {
  known = known_living;
  tells = false;
  rights = rights_living;
  rest = LivingAtRest;
  does = LivingDoes;
  does_same = living-same;
  does_join = living-join;
}
