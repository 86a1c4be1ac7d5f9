use Rattle.std.proofs.Common.{ℕ, refl, inl, inr, arith, [], ◌∷◌, take, drop}
use Rattle.bm_journal.specs.declared.ids.Domain.TheVariants.{Plain, Tracing}
use Rattle.bm_journal.specs.declared.units.Units.TheVariants.{Whole}
use Rattle.bm_journal.specs.declared.entry.Entry.{Entry}
use Rattle.bm_journal.specs.declared.entry.Entry.TheVariants as entry
use Rattle.bm_class.specs.Sizes.{size_of_class}
use Rattle.bm_class.specs.Watermarks.{low_of_size, high_of_size}
use Rattle.bm_law.specs.State.{State, opening}
use Rattle.bm_law.specs.Lists.{Log, after}
use Rattle.bm_law.specs.WorkedDeferred.{work_overtaken, first_batch, second_batch, second_stage, second_returned}
use Rattle.bm_law_work.proofs.Parts.{ordinary-say, ordinary-stand}
use Rattle.bm_law_work.proofs.worked.worked_works.Goals as goal

-- the work that is overtaken
abbrev s0 : State ℕ
s0 = after (opening 0) (take 1 work_overtaken)

abbrev part0 : Log
part0 = drop 1 work_overtaken

pub returns-clause-overtaken : goal.returns-clause-overtaken
unfolding low_of_size high_of_size size_of_class
returns-clause-overtaken c = record {
  one = take 1 part0;
  two = drop 1 part0;
  part_is = refl;
  is_first = ordinary-say _ (entry.Work 10 ∷ []) s0 (take 1 part0) refl refl;
  is_second = record {
    one = take 1 (drop 1 part0);
    two = drop 2 part0;
    part_is = refl;
    is_first = ([], record { one = take 1 (drop 1 part0); two = []; part_is = refl; is_first = ordinary-say _ (entry.Receive 10 (Whole []) ∷ []) _ _ refl refl; is_second = refl });
    is_second = record {
      one = take 49 (drop 2 part0);
      two = drop 51 part0;
      part_is = refl;
      is_first = (
        7,
        record {
          one = take 1 (drop 2 part0);
          two = drop 1 (take 49 (drop 2 part0));
          part_is = refl;
          is_first = ordinary-say _ (entry.Read 10 7 ∷ []) _ _ refl refl;
          is_second = record {
            one = take 47 (drop 3 part0);
            two = take 1 (drop 50 part0);
            part_is = refl;
            is_first = ordinary-say _ (entry.Enter 10 1 ∷ entry.PopNone 10 ∷ entry.Leave 10 0 ∷ []) _ _ (record { over = []; above = λ k d n. omega (arith, n); last = _; is_last = inr (0, refl); own_is = refl }) refl;
            is_second = record { one = take 1 (drop 50 part0); two = []; part_is = refl; is_first = ordinary-say _ (entry.TakeExtra 10 (Whole []) ∷ []) _ _ ([], refl) refl; is_second = refl };
          };
        },
      );
      is_second = record {
        one = drop 51 part0;
        two = [];
        part_is = refl;
        is_first = record {
          one = [];
          two = drop 51 part0;
          part_is = refl;
          is_first = refl;
          is_second = record {
            one = take 2 (drop 51 part0);
            two = drop 53 part0;
            part_is = refl;
            is_first = ordinary-say _ (entry.Enter 10 1 ∷ entry.TakeDelayed 10 (Whole []) ∷ []) _ _ ([], refl) refl;
            is_second = record {
              one = [];
              two = drop 53 part0;
              part_is = refl;
              is_first = refl;
              is_second = record {
                one = drop 53 part0;
                two = [];
                part_is = refl;
                is_first = ordinary-say _ (entry.Leave 10 0 ∷ []) _ _ (0, refl) refl;
                is_second = refl;
              };
            };
          };
        };
        is_second = record { one = []; two = []; part_is = refl; is_first = refl; is_second = refl };
      };
    };
  };
}

-- the work in which a batch begins
abbrev part1 : Log
part1 = drop 216 first_batch

pub returns-clause-batched : goal.returns-clause-batched
unfolding low_of_size high_of_size size_of_class
returns-clause-batched c = record {
  one = take 1 part1;
  two = drop 1 part1;
  part_is = refl;
  is_first = ordinary-say _ (entry.Work 1 ∷ []) _ (take 1 part1) refl refl;
  is_second = record {
    one = take 1 (drop 1 part1);
    two = drop 2 part1;
    part_is = refl;
    is_first = ([], record { one = take 1 (drop 1 part1); two = []; part_is = refl; is_first = ordinary-say _ (entry.Receive 1 (Whole []) ∷ []) _ _ refl refl; is_second = refl });
    is_second = record {
      one = take 1 (drop 2 part1);
      two = drop 3 part1;
      part_is = refl;
      is_first = (51, record { one = take 1 (drop 2 part1); two = []; part_is = refl; is_first = ordinary-say _ (entry.Read 1 51 ∷ []) _ _ refl refl; is_second = refl });
      is_second = record {
        one = drop 3 part1;
        two = [];
        part_is = refl;
        is_first = record {
          one = [];
          two = drop 3 part1;
          part_is = refl;
          is_first = refl;
          is_second = record {
            one = take 2 (drop 3 part1);
            two = drop 5 part1;
            part_is = refl;
            is_first = ordinary-say _ (entry.Enter 1 1 ∷ entry.TakeDelayed 1 (Whole []) ∷ []) _ _ ([], refl) refl;
            is_second = record {
              one = take 1 (drop 5 part1);
              two = drop 6 part1;
              part_is = refl;
              is_first = ordinary-say _ (entry.Batch 1 (Whole (3 ∷ [])) ∷ []) _ _ (3 ∷ [], refl) refl;
              is_second = record {
                one = take 1 (drop 6 part1);
                two = drop 7 part1;
                part_is = refl;
                is_first = ordinary-say _ (entry.Leave 1 0 ∷ []) _ _ (0, refl) refl;
                is_second = ordinary-say _ (entry.Stamp 1 Plain 2 ∷ []) _ _ (2, refl) refl;
              };
            };
          };
        };
        is_second = record { one = []; two = []; part_is = refl; is_first = refl; is_second = refl };
      };
    };
  };
}

-- the work in which a batch has passed, and another one begins
abbrev part2 : Log
part2 = drop 251 second_batch

abbrev ended2 : Entry
ended2 = entry.Finish (record { domain = Plain; number = 2; first = 2 ∷ 1 ∷ []; later = 4 ∷ 2 ∷ [] })

pub returns-clause-passed : goal.returns-clause-passed
unfolding low_of_size high_of_size size_of_class
returns-clause-passed c = record {
  one = take 1 part2;
  two = drop 1 part2;
  part_is = refl;
  is_first = ordinary-say _ (entry.Work 1 ∷ []) _ (take 1 part2) refl refl;
  is_second = record {
    one = take 1 (drop 1 part2);
    two = drop 2 part2;
    part_is = refl;
    is_first = ([], record { one = take 1 (drop 1 part2); two = []; part_is = refl; is_first = ordinary-say _ (entry.Receive 1 (Whole []) ∷ []) _ _ refl refl; is_second = refl });
    is_second = record {
      one = take 1 (drop 2 part2);
      two = drop 3 part2;
      part_is = refl;
      is_first = (50, record { one = take 1 (drop 2 part2); two = []; part_is = refl; is_first = ordinary-say _ (entry.Read 1 50 ∷ []) _ _ refl refl; is_second = refl });
      is_second = record {
        one = drop 3 part2;
        two = [];
        part_is = refl;
        is_first = record {
          one = take 3 (drop 3 part2);
          two = drop 6 part2;
          part_is = refl;
          is_first = (
            ended2 ∷ entry.Pass 1 Plain 2 ∷ [],
            record { ended = ended2 ∷ []; begun = []; seen = 2; own_is = refl; may_finish = inr (ended2, refl, (_, refl, refl)); may_begin = inl refl },
            record {
              one = take 2 (drop 3 part2);
              two = take 1 (drop 5 part2);
              part_is = refl;
              is_first = ordinary-stand _ _ _ refl;
              is_second = ordinary-say _ (entry.Send 1 0 (Whole (3 ∷ [])) ∷ []) _ _ (0, 3 ∷ [], refl) refl;
            },
          );
          is_second = record {
            one = take 2 (drop 6 part2);
            two = drop 8 part2;
            part_is = refl;
            is_first = ordinary-say _ (entry.Enter 1 1 ∷ entry.TakeDelayed 1 (Whole []) ∷ []) _ _ ([], refl) refl;
            is_second = record {
              one = take 1 (drop 8 part2);
              two = drop 9 part2;
              part_is = refl;
              is_first = ordinary-say _ (entry.Batch 1 (Whole (55 ∷ [])) ∷ []) _ _ (55 ∷ [], refl) refl;
              is_second = record {
                one = take 1 (drop 9 part2);
                two = drop 10 part2;
                part_is = refl;
                is_first = ordinary-say _ (entry.Leave 1 0 ∷ []) _ _ (0, refl) refl;
                is_second = ordinary-say _ (entry.Stamp 1 Plain 4 ∷ []) _ _ (4, refl) refl;
              };
            };
          };
        };
        is_second = record { one = []; two = []; part_is = refl; is_first = refl; is_second = refl };
      };
    };
  };
}

-- the work in which a parcel comes and the second stage begins; the plain batch waits
abbrev part3 : Log
part3 = drop 262 second_stage

pub returns-clause-begun : goal.returns-clause-begun
unfolding low_of_size high_of_size size_of_class
returns-clause-begun c = record {
  one = take 1 part3;
  two = drop 1 part3;
  part_is = refl;
  is_first = ordinary-say _ (entry.Work 1 ∷ []) _ (take 1 part3) refl refl;
  is_second = record {
    one = take 2 (drop 1 part3);
    two = drop 3 part3;
    part_is = refl;
    is_first = (
      3 ∷ [],
      record {
        one = take 1 (drop 1 part3);
        two = take 1 (drop 2 part3);
        part_is = refl;
        is_first = ordinary-say _ (entry.Receive 1 (Whole (3 ∷ [])) ∷ []) _ _ refl refl;
        is_second =
            ([], record { one = take 1 (drop 2 part3); two = []; part_is = refl; is_first = ordinary-say _ (entry.Receive 1 (Whole []) ∷ []) _ _ refl refl; is_second = refl });
      },
    );
    is_second = record {
      one = take 1 (drop 3 part3);
      two = drop 4 part3;
      part_is = refl;
      is_first = (50, record { one = take 1 (drop 3 part3); two = []; part_is = refl; is_first = ordinary-say _ (entry.Read 1 50 ∷ []) _ _ refl refl; is_second = refl });
      is_second = record {
        one = take 5 (drop 4 part3);
        two = drop 9 part3;
        part_is = refl;
        is_first = record {
          one = take 2 (drop 4 part3);
          two = take 3 (drop 6 part3);
          part_is = refl;
          is_first = (
            entry.Begin Plain 3 ∷ entry.Pass 1 Plain 3 ∷ [],
            record { ended = []; begun = entry.Begin Plain 3 ∷ []; seen = 3; own_is = refl; may_finish = inl refl; may_begin = inr (3, [], refl, inl refl) },
            record {
              one = take 2 (drop 4 part3);
              two = [];
              part_is = refl;
              is_first = ordinary-stand _ _ _ refl;
              is_second = refl;
            },
          );
          is_second = record {
            one = take 2 (drop 6 part3);
            two = take 1 (drop 8 part3);
            part_is = refl;
            is_first = ordinary-say _ (entry.Enter 1 1 ∷ entry.TakeDelayed 1 (Whole []) ∷ []) _ _ ([], refl) refl;
            is_second = record {
              one = [];
              two = take 1 (drop 8 part3);
              part_is = refl;
              is_first = refl;
              is_second = record {
                one = take 1 (drop 8 part3);
                two = [];
                part_is = refl;
                is_first = ordinary-say _ (entry.Leave 1 0 ∷ []) _ _ (0, refl) refl;
                is_second = refl;
              };
            };
          };
        };
        is_second = record {
          one = [];
          two = drop 9 part3;
          part_is = refl;
          is_first = refl;
          is_second = record {
            one = take 1 (drop 9 part3);
            two = drop 10 part3;
            part_is = refl;
            is_first = ordinary-say _ (entry.BeginSecond 1 (Whole (3 ∷ [])) ∷ []) _ _ (3 ∷ [], refl) refl;
            is_second = ordinary-say _ (entry.Stamp 1 Tracing 2 ∷ []) _ _ (2, refl) refl;
          };
        };
      };
    };
  };
}

-- the work in which the second stage ends
abbrev part4 : Log
part4 = drop 273 second_returned

abbrev ended4 : Entry
ended4 = entry.Finish (record { domain = Tracing; number = 2; first = 4 ∷ 0 ∷ 2 ∷ 0 ∷ []; later = 4 ∷ 0 ∷ 2 ∷ 0 ∷ [] })

pub returns-clause-ended : goal.returns-clause-ended
unfolding low_of_size high_of_size size_of_class
returns-clause-ended c = record {
  one = take 1 part4;
  two = drop 1 part4;
  part_is = refl;
  is_first = ordinary-say _ (entry.Work 1 ∷ []) _ (take 1 part4) refl refl;
  is_second = record {
    one = take 1 (drop 1 part4);
    two = drop 2 part4;
    part_is = refl;
    is_first = ([], record { one = take 1 (drop 1 part4); two = []; part_is = refl; is_first = ordinary-say _ (entry.Receive 1 (Whole []) ∷ []) _ _ refl refl; is_second = refl });
    is_second = record {
      one = take 1 (drop 2 part4);
      two = drop 3 part4;
      part_is = refl;
      is_first = (50, record { one = take 1 (drop 2 part4); two = []; part_is = refl; is_first = ordinary-say _ (entry.Read 1 50 ∷ []) _ _ refl refl; is_second = refl });
      is_second = record {
        one = take 4 (drop 3 part4);
        two = drop 7 part4;
        part_is = refl;
        is_first = record {
          one = take 1 (drop 3 part4);
          two = take 3 (drop 4 part4);
          part_is = refl;
          is_first = (
            entry.Pass 1 Plain 3 ∷ [],
            record { ended = []; begun = []; seen = 3; own_is = refl; may_finish = inl refl; may_begin = inl refl },
            record {
              one = take 1 (drop 3 part4);
              two = [];
              part_is = refl;
              is_first = ordinary-stand _ _ _ refl;
              is_second = refl;
            },
          );
          is_second = record {
            one = take 2 (drop 4 part4);
            two = take 1 (drop 6 part4);
            part_is = refl;
            is_first = ordinary-say _ (entry.Enter 1 1 ∷ entry.TakeDelayed 1 (Whole []) ∷ []) _ _ ([], refl) refl;
            is_second = record {
              one = [];
              two = take 1 (drop 6 part4);
              part_is = refl;
              is_first = refl;
              is_second = record {
                one = take 1 (drop 6 part4);
                two = [];
                part_is = refl;
                is_first = ordinary-say _ (entry.Leave 1 0 ∷ []) _ _ (0, refl) refl;
                is_second = refl;
              };
            };
          };
        };
        is_second = record {
          one = drop 7 part4;
          two = [];
          part_is = refl;
          is_first = (
            entry.Begin Tracing 1 ∷ ended4 ∷ entry.Pass 1 Tracing 2 ∷ [],
            record { ended = []; begun = entry.Begin Tracing 1 ∷ ended4 ∷ []; seen = 2; own_is = refl; may_finish = inl refl; may_begin = inr (1, ended4 ∷ [], refl, inr (ended4, refl, (_, refl, refl))) },
            record {
              one = take 3 (drop 7 part4);
              two = drop 10 part4;
              part_is = refl;
              is_first = ordinary-stand _ _ _ refl;
              is_second = ordinary-say _ (entry.Return 1 (Whole (3 ∷ [])) ∷ []) _ _ (3 ∷ [], refl) refl;
            },
          );
          is_second = refl;
        };
      };
    };
  };
}
