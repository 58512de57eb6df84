-- SPDX-License-Identifier: MIT OR Apache-2.0
-- The links are handed back one after the other.
use Rattle.std.proofs.Common.{◌≡◌, ◌+◌, ◌≤◌, List, [], ◌∷◌, ◌++◌, map, Option, sym, ap, ◌∙◌, subst, append-nil}
use Rattle.link_workers.specs.declared.fault.IoFault.{IoFault}
use Rattle.ruled_relay.specs.Inbox.{PassView}
use Rattle.ruled_relay.specs.Outbox.{PutterView}
use Rattle.station_io.specs.declared.link.Link.{Link}
use Rattle.link_workers.specs.declared.reader.HasRead.{HasRead}
use Rattle.link_workers.specs.declared.writer.HasWritten.{HasWritten}
use Rattle.station_io.specs.Given.{Follows, all_given, given_back}
use Rattle.station_io.specs.Pairs.{paired}
use Rattle.thread_crew.specs.Pairs.{EachPair}
use Rattle.station_io.proofs.Pairing.{each_pair_next, each_pair_none, map_next, pair_next}

module _ {I O G : Type 0} where
  -- what is done of the links, and what is still to be done
  pub record Gives (reads all_reads : List (HasRead I G)) (writes all_writes : List (HasWritten O)) (putters all_putters : List PutterView) (back : List (Link I O G × Option IoFault)) (passes : List PassView) : Type 0 where
    pub given : back ++ all_given reads writes putters ≡ all_given all_reads all_writes all_putters
    pub passed : passes ++ map (λ (r : HasRead I G). r.pass) reads ≡ map (λ (r : HasRead I G). r.pass) all_reads
    pub queues : map (λ (w : HasWritten O). w.taker.queue) writes ≡ map (λ (p : PutterView). p.queue) putters
    pub follows : EachPair Follows writes putters → EachPair Follows all_writes all_putters

  pub gives_none : (reads : List (HasRead I G)) (writes : List (HasWritten O)) (putters : List PutterView) (reads_now : List (HasRead I G)) (writes_now : List (HasWritten O)) (putters_now : List PutterView)
      (back : List (Link I O G × Option IoFault)) (passes : List PassView)
      → reads_now ≡ reads → writes_now ≡ writes → putters_now ≡ putters → back ≡ [] → passes ≡ []
      → map (λ (w : HasWritten O). w.taker.queue) writes ≡ map (λ (p : PutterView). p.queue) putters
      → Gives reads_now reads writes_now writes putters_now putters back passes
  gives_none reads writes putters reads_now writes_now putters_now back passes same_r same_w same_p no_back no_passes queues = record {
    given = λ i. no_back i ++ all_given (same_r i) (same_w i) (same_p i);
    passed = λ i. no_passes i ++ map (λ (r : HasRead I G). r.pass) (same_r i);
    queues = ap (map (λ (w : HasWritten O). w.taker.queue)) same_w ∙ queues ∙ ap (map (λ (p : PutterView). p.queue)) (sym same_p);
    follows = λ f. subst (λ (y : List (HasWritten O) × List PutterView). EachPair Follows y.0 y.1) (λ i. (same_w i, same_p i)) f;
  }

  -- the queues of the next are one
  pub next_queue : (reads all_reads : List (HasRead I G)) (writes all_writes rest_w : List (HasWritten O)) (putters all_putters rest_p : List PutterView) (back : List (Link I O G × Option IoFault)) (passes : List PassView)
      (w : HasWritten O) (p : PutterView) → Gives reads all_reads writes all_writes putters all_putters back passes → writes ≡ w ∷ rest_w → putters ≡ p ∷ rest_p
      → (p.queue ≡ w.taker.queue) × (map (λ (w : HasWritten O). w.taker.queue) rest_w ≡ map (λ (p : PutterView). p.queue) rest_p)
  next_queue reads all_reads writes all_writes rest_w putters all_putters rest_p back passes w p so_far is_w is_p =
      let both : w.taker.queue ∷ map (λ (w : HasWritten O). w.taker.queue) rest_w ≡ p.queue ∷ map (λ (p : PutterView). p.queue) rest_p =
      ap (map (λ (w : HasWritten O). w.taker.queue)) (sym is_w) ∙ so_far.queues ∙ ap (map (λ (p : PutterView). p.queue)) is_p in ((cc), (cc))

  pub gives_next : (reads all_reads rest_r : List (HasRead I G)) (writes all_writes rest_w : List (HasWritten O)) (putters all_putters rest_p : List PutterView)
      (back back_now : List (Link I O G × Option IoFault)) (passes passes_now : List PassView) (r : HasRead I G) (w : HasWritten O) (p : PutterView) (one : Link I O G × Option IoFault) (pass : PassView)
      → Gives reads all_reads writes all_writes putters all_putters back passes → reads ≡ r ∷ rest_r → writes ≡ w ∷ rest_w → putters ≡ p ∷ rest_p
      → one ≡ given_back r w p → pass ≡ r.pass → Follows w p → back_now ≡ back ++ one ∷ [] → passes_now ≡ passes ++ pass ∷ []
      → Gives rest_r all_reads rest_w all_writes rest_p all_putters back_now passes_now
  gives_next reads all_reads rest_r writes all_writes rest_w putters all_putters rest_p back back_now passes passes_now r w p one pass so_far is_r is_w is_p is_one is_pass follows put_b put_p = record {
    given = pair_next (λ give putter. give putter) back back_now (paired given_back reads writes) (paired given_back rest_r rest_w) putters rest_p (given_back r w) p
        (all_given all_reads all_writes all_putters) so_far.given (λ i. paired given_back (is_r i) (is_w i)) is_p (put_b ∙ ap (λ b. back ++ b ∷ []) is_one);
    passed = map_next (λ (r : HasRead I G). r.pass) passes passes_now reads rest_r r (map (λ (r : HasRead I G). r.pass) all_reads) so_far.passed is_r (put_p ∙ ap (λ b. passes ++ b ∷ []) is_pass);
    queues = (next_queue reads all_reads writes all_writes rest_w putters all_putters rest_p back passes w p so_far is_w is_p).1;
    follows = λ f. so_far.follows (each_pair_next Follows writes rest_w putters rest_p w p is_w is_p follows f);
  }

  pub gives_all : (reads all_reads : List (HasRead I G)) (writes all_writes : List (HasWritten O)) (putters all_putters : List PutterView) (back : List (Link I O G × Option IoFault)) (passes : List PassView)
      → Gives reads all_reads writes all_writes putters all_putters back passes → reads ≡ [] → writes ≡ []
      → (back ≡ all_given all_reads all_writes all_putters) × (passes ≡ map (λ (r : HasRead I G). r.pass) all_reads) × EachPair Follows all_writes all_putters
  gives_all reads all_reads writes all_writes putters all_putters back passes so_far none_r none_w = (
    sym (append-nil back) ∙ ap (λ l. back ++ all_given l writes putters) (sym none_r) ∙ so_far.given,
    sym (append-nil passes) ∙ ap (λ l. passes ++ map (λ (r : HasRead I G). r.pass) l) (sym none_r) ∙ so_far.passed,
    so_far.follows (each_pair_none Follows writes putters none_w),
  )
