-- Forecasts, merges and pages of questions, computed: that the definitions are about something.
-- Document 01's listing; a single station; three in a chain; one that is never heard; refusals.
use mathlib.Core.List.{[], ◌∷◌}
use mathlib.Core.Path.{◌≡◌, refl}
use lib.ListN.{replicate}
use Rattle.lists.specs.Below.{all_below, any_below, set_below, tabulate}
use Rattle.links.specs.Log.{bit, hears_in, masks_in, cut}
use Rattle.links.specs.Inner.Clock.{latest, news}
use Rattle.links.specs.Inner.Number.{answers, full, start, ends, num, num_of, got, got_of}
use Rattle.links.specs.Question.{otherwise, answer_in}
use Rattle.links.specs.Forecast.{end_count, last_end}
use Rattle.std.specs.Prelude.{Some}
use Rattle.planning_spec.specs.LinkLog.{log_refusal}
use Rattle.planning_spec.specs.Forecast.{forecast_call}
use Rattle.planning_spec.specs.Merge.{mask_of, merged_mask, merged_log, logs_refusal, merge_refusal, merge_call, front_written}
use Rattle.planning_spec.specs.Questions.{question_at, is_bad, page_refusal, questions_refusal, arrival_of, answer_to, never, questions_call}
use Rattle.planning_spec.specs.Questions.{arrival_number, answer_numbers, questions_into_refusal}

pub record Forecasts : Type 0 where
  -- the three rounds of the listing: both stations end in round 2
  pub listing :
      forecast_call 2 (2 ∷ 1 ∷ 2 ∷ 1 ∷ 2 ∷ 1 ∷ [])
      ≡ record { refusal = 0; ends = 1 ∷ 1 ∷ replicate 14 0; last = 2 ∷ 2 ∷ replicate 14 0 }
  -- a single station ends in every round, whatever its mask
  pub single : forecast_call 1 (0 ∷ 1 ∷ 6 ∷ []) ≡ record { refusal = 0; ends = 3 ∷ replicate 15 0; last = 3 ∷ replicate 15 0 }
  -- stations 0 and 2 hear 1 only, and it hears both: it ends in every second round, they in every
  -- fourth
  pub chain :
      forecast_call 3 (2 ∷ 5 ∷ 2 ∷ 2 ∷ 5 ∷ 2 ∷ 2 ∷ 5 ∷ 2 ∷ 2 ∷ 5 ∷ 2 ∷ 2 ∷ 5 ∷ 2 ∷ [])
      ≡ record { refusal = 0; ends = 1 ∷ 2 ∷ 1 ∷ replicate 13 0; last = 4 ∷ 4 ∷ 4 ∷ replicate 13 0 }
  -- 1 hears 0, and nobody hears 1: nothing ends
  pub one_way : forecast_call 2 (0 ∷ 1 ∷ 0 ∷ 1 ∷ []) ≡ record { refusal = 0; ends = replicate 16 0; last = replicate 16 0 }
  -- N, then the log: not whole rounds, or one round too many
  pub no_stations : forecast_call 0 (2 ∷ []) ≡ record { refusal = 1; ends = replicate 16 0; last = replicate 16 0 }
  pub seventeen : forecast_call 17 (2 ∷ []) ≡ record { refusal = 1; ends = replicate 16 0; last = replicate 16 0 }
  pub not_whole : forecast_call 2 (2 ∷ 1 ∷ 2 ∷ []) ≡ record { refusal = 12; ends = replicate 16 0; last = replicate 16 0 }
  pub most : log_refusal 16 32768 ≡ 0
  pub too_many : log_refusal 16 32784 ≡ 12

pub forecasts : Forecasts
unfolding forecast_call log_refusal end_count last_end ends start full all_below set_below answers news latest hears_in bit masks_in cut
forecasts =
    record {
      listing = refl;
      single = refl;
      chain = refl;
      one_way = refl;
      no_stations = refl;
      seventeen = refl;
      not_whole = refl;
      most = refl;
      too_many = refl;
    }

pub record Merges : Type 0 where
  -- 0 hears 1 by the first log, 1 hears 0 by the second, which has a round more
  pub union : merged_log 2 (2 ∷ 0 ∷ []) (0 ∷ 1 ∷ 0 ∷ 1 ∷ []) ≡ 2 ∷ 1 ∷ 0 ∷ 1 ∷ []
  -- own bits and bits from N up are no hearings
  pub cleaned : merged_log 2 (65_535 ∷ 65_535 ∷ []) [] ≡ 2 ∷ 1 ∷ []
  pub nothing : merged_log 3 [] [] ≡ []
  -- what stands past the merged log stays
  pub past : front_written 0 (merged_log 2 (2 ∷ 0 ∷ []) (0 ∷ 1 ∷ [])) (7 ∷ 7 ∷ 7 ∷ []) ≡ 2 ∷ 1 ∷ 7 ∷ []
  -- N, then the logs, then the buffer
  pub no_stations : merge_call 0 (2 ∷ []) [] 0 ≡ record { refusal = 1; masks = 0 }
  pub first_not_whole : merge_call 2 (2 ∷ []) (0 ∷ 1 ∷ []) 0 ≡ record { refusal = 12; masks = 0 }
  pub second_not_whole : merge_call 2 (2 ∷ 0 ∷ []) (0 ∷ []) 0 ≡ record { refusal = 12; masks = 0 }
  pub short : merge_call 2 (2 ∷ 0 ∷ []) (0 ∷ 1 ∷ 0 ∷ 1 ∷ []) 3 ≡ record { refusal = 9; masks = 0 }
  pub exact : merge_call 2 (2 ∷ 0 ∷ []) (0 ∷ 1 ∷ 0 ∷ 1 ∷ []) 4 ≡ record { refusal = 0; masks = 4 }

pub merges : Merges
unfolding mask_of merged_mask merged_log logs_refusal merge_refusal merge_call front_written log_refusal tabulate hears_in bit masks_in cut
merges =
    record {
      union = refl;
      cleaned = refl;
      nothing = refl;
      past = refl;
      no_stations = refl;
      first_not_whole = refl;
      second_not_whole = refl;
      short = refl;
      exact = refl;
    }

pub record Questions : Type 0 where
  -- two stations that hear each other for two rounds: 1 has the first broadcast of 0 in round 1, 0
  -- has its own first in round 0 and its second in round 2, and 1 does not have that one
  pub page :
      questions_call 2 (2 ∷ 1 ∷ 2 ∷ 1 ∷ []) (0 ∷ 1 ∷ 1 ∷ 0 ∷ 0 ∷ 1 ∷ 0 ∷ 0 ∷ 2 ∷ 0 ∷ 1 ∷ 2 ∷ [])
      ≡ record {
        refusal = 0;
        answers = Some 1 ∷ Some 0 ∷ Some 2 ∷ replicate 61 never;
      }
  -- a round more brings it
  pub added :
      answer_numbers 2 (2 ∷ 1 ∷ 2 ∷ 1 ∷ 2 ∷ 1 ∷ []) (0 ∷ 1 ∷ 1 ∷ 0 ∷ 0 ∷ 2 ∷ 0 ∷ 1 ∷ 2 ∷ []) ≡ 1 ∷ 2 ∷ 3 ∷ []
  -- no page, no answer
  pub nothing : questions_call 2 [] [] ≡ record { refusal = 0; answers = replicate 64 never }
  -- N, then the log, then the page, then the buffer
  pub no_stations : questions_into_refusal 0 [] (0 ∷ []) [] ≡ 1
  pub log_first : questions_into_refusal 2 (2 ∷ []) (0 ∷ []) [] ≡ 12
  pub not_whole : questions_into_refusal 2 [] (0 ∷ 1 ∷ []) [] ≡ 18
  pub no_sender : questions_into_refusal 2 [] (2 ∷ 1 ∷ 1 ∷ []) [] ≡ 18
  pub no_receiver : questions_into_refusal 2 [] (1 ∷ 2 ∷ 1 ∷ []) [] ≡ 18
  pub no_number : questions_into_refusal 2 [] (0 ∷ 1 ∷ 1 ∷ 0 ∷ 1 ∷ 0 ∷ []) [] ≡ 18
  pub most : page_refusal 2 (replicate 192 1) ≡ 0
  pub too_many : page_refusal 2 (replicate 195 1) ≡ 18
  pub short : questions_into_refusal 2 [] (0 ∷ 1 ∷ 1 ∷ []) [] ≡ 9

pub questions : Questions
unfolding questions_call questions_refusal page_refusal is_bad question_at arrival_of answer_to arrival_number answer_numbers questions_into_refusal log_refusal answer_in otherwise got got_of num num_of ends start full all_below any_below set_below tabulate answers news latest hears_in bit masks_in cut
questions =
    record {
      page = refl;
      added = refl;
      nothing = refl;
      no_stations = refl;
      log_first = refl;
      not_whole = refl;
      no_sender = refl;
      no_receiver = refl;
      no_number = refl;
      most = refl;
      too_many = refl;
      short = refl;
    }
