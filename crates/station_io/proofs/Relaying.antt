-- SPDX-License-Identifier: MIT OR Apache-2.0
-- All links: by the results of the threads, all links reached their ends over one list of steps.
use Rattle.std.proofs.Common.{◌≡◌, ℕ, ◌<◌, List, [], ◌∷◌, ◌++◌, Option, length, map, refl, sym, ap, ◌∙◌, subst, arith}
use Rattle.std.proofs.lemmas.List.{length-map}
use mathlib.Core.Option.{some}
use lib.ListN.{get_elem?}
use Rattle.std.specs.declared.alloc.Global.{Global}
use Rattle.atomic_table.proofs.Lists.{at_map}
use Rattle.controller_worker.specs.Links.{is_given_up}
use Rattle.controller_worker.specs.Moves.{steps_of, taken_of}
use Rattle.controller_worker.specs.Steps.{AreOfLinks, whats_of}
use Rattle.controller_model.specs.Controller.{Controller}
use Rattle.ruled_relay.specs.declared.item.What.{What}
use Rattle.ruled_relay.proofs.Places.{same_there, there, within}
use Rattle.ruled_relay.specs.Ends.{EndView}
use Rattle.ruled_relay.specs.Inbox.{AreJoined, PassView, queues_of}
use Rattle.ruled_relay.specs.Outbox.{PutterView, TakerView}
use Rattle.ruled_relay.specs.Row.{Row}
use Rattle.station_io.specs.declared.link.Link.{Link}
use Rattle.station_io.specs.declared.work.Calling.{Calling}
use Rattle.station_io.specs.declared.work.HasCalled.{HasCalled}
use Rattle.link_workers.specs.declared.reader.HasRead.{HasRead}
use Rattle.link_workers.specs.declared.writer.HasWritten.{HasWritten}
use Rattle.station_io.specs.declared.work.Reading.{Reading}
use Rattle.station_io.specs.declared.work.Writing.{Writing}
use Rattle.station_io.specs.Done.{AreRead, AreWritten, HasEnded, IsCalled}
use Rattle.station_io.specs.Given.{Follows, all_given, given_back, link_of}
use Rattle.station_io.specs.Links.{HasCarried, Ended, LinkView, Relays, ended_view, fault_of, link_view}
use Rattle.station_io.specs.Pairs.{paired}
use Rattle.thread_crew.specs.Pairs.{EachPair}
use Rattle.station_io.specs.Work.{HaveQueues, reading, writing}
use Rattle.station_io.proofs.Coming.{comes}
use Rattle.station_io.proofs.Pairing.{at_pair, images_same, length_paired, same_images}

module _ {I O G : Type 0} (remaining : I → Option (List ℕ)) (contents : O → Option (List ℕ)) (refused : G → ℕ)
    (start : Controller) (alloc : Global) (limit : ℕ) (links : List (Link I O G))
    (read : List (HasRead I G)) (written : List (HasWritten O)) (desk : Row) (putters : List PutterView)
    (all : HasEnded remaining contents refused start alloc limit links read written desk putters) where
  pub size_read : length read ≡ length links
  size_read = all.reads.0 ∙ length_paired (reading alloc limit) links all.passes all.inbox.1

  pub size_written : length written ≡ length links
  size_written = all.writes.0 ∙ length_paired (writing alloc) links all.takers all.outboxes.1

  pub size_putters : length putters ≡ length links
  size_putters = all.runs.count ∙ all.outboxes.0

  size_desk : length desk ≡ length links
  size_desk = sym (length-map desk (λ (e : EndView What). e.queue)) ∙ ap length all.runs.taken.0 ∙ length-map all.first_desk (λ (e : EndView What). e.queue) ∙ all.inbox.0

  -- the desk and the passes are still of the same queues
  pub same_queues : queues_of desk ≡ map (λ (p : PassView). p.queue) (map (λ (r : HasRead I G). r.pass) read)
  same_queues =
      let sizes : length all.passes ≡ length (map (λ (r : HasRead I G). r.pass) read) = all.inbox.1 ∙ sym size_read ∙ sym (length-map read (λ (r : HasRead I G). r.pass)) in
      let each : EachPair (λ (p q : PassView). p.queue ≡ q.queue) all.passes (map (λ (r : HasRead I G). r.pass) read) = λ at p q here now.
      let in_read : at < length read = let w = within all.passes at p here in let s = size_read in let t = all.inbox.1 in omega arith in
      let in_links : at < length links = let s = size_read in omega arith in
      let r = there read at in_read in
      let link = there links at in_links in
      let q_is : r.0.pass ≡ q = same_there (map (λ (r : HasRead I G). r.pass) read) at r.0.pass q (at_map (λ (r : HasRead I G). r.pass) read at r.0 r.1) now in
      let does = all.reads.1 at (reading alloc limit link.0 p) r.0 (at_pair (reading alloc limit) links all.passes at link.0 p link.1 here) r.1 in
      sym (ap (λ (x : PassView). x.queue) does.put) ∙ ap (λ (x : PassView). x.queue) q_is in
      all.runs.taken.0 ∙ all.inbox.4 ∙ same_images (λ (p : PassView). p.queue) (λ (p : PassView). p.queue) all.passes (map (λ (r : HasRead I G). r.pass) read) sizes each

  -- and so are takers and putters
  pub same_outboxes : map (λ (w : HasWritten O). w.taker.queue) written ≡ map (λ (p : PutterView). p.queue) putters
  same_outboxes =
      let each : EachPair (λ (w : HasWritten O) (p : PutterView). w.taker.queue ≡ p.queue) written putters = λ at w p here now.
      let in_links : at < length links = let h = within written at w here in let s = size_written in omega arith in
      let link = there links at in_links in
      let taker = there all.takers at (let s = all.outboxes.1 in omega arith) in
      let does = all.writes.1 at (writing alloc link.0 taker.0) w (at_pair (writing alloc) links all.takers at link.0 taker.0 link.1 taker.1) here in
      let served = all.runs.links at p now in
      ap (λ (x : TakerView). x.queue) does.takes ∙ sym (images_same (λ (x : PutterView). x.queue) (λ (x : TakerView). x.queue) all.first_putters all.takers all.outboxes.4 at served.0 taker.0 served.1 taker.1)
      ∙ sym served.2.queue in
      same_images (λ (w : HasWritten O). w.taker.queue) (λ (p : PutterView). p.queue) written putters (size_written ∙ sym size_putters) each

  -- one link
  link_comes : (left : Row) → EachPair Follows written putters → AreJoined desk (map (λ (r : HasRead I G). r.pass) read) left
      → (number : ℕ) (link : Link I O G) (r : HasRead I G) (w : HasWritten O) (p : PutterView)
      → get_elem? links number ≡ some link → get_elem? read number ≡ some r → get_elem? written number ≡ some w → get_elem? putters number ≡ some p
      → HasCarried start all.runs.moves limit number (link_view remaining contents refused link) (link_view remaining contents refused (link_of r w))
      (fault_of r.fault w.fault (is_given_up p))
  link_comes left outbox joined number link r w p at_link at_read at_written at_putter =
      let room : number < length links = within links number link at_link in
      let pass = there all.passes number (let s = all.inbox.1 in omega arith) in
      let taker = there all.takers number (let s = all.outboxes.1 in omega arith) in
      let served = all.runs.links number p at_putter in
      let reads = all.reads.1 number (reading alloc limit link pass.0) r (at_pair (reading alloc limit) links all.passes number link pass.0 at_link pass.1) at_read in
      let writes = all.writes.1 number (writing alloc link taker.0) w (at_pair (writing alloc) links all.takers number link taker.0 at_link taker.1) at_written in
      let row = there left number (let s = joined.0 in let t = size_desk in omega arith) in
      let end = joined.1 number row.0 row.1 in
      let taken = all.runs.taken.1 number end.0 end.2 in
      let blank = all.inbox.2 number taken.0 taken.1 in
      let is_taken : end.0.seen.taken ≡ whats_of number (taken_of all.runs.moves) = taken.2 ∙ ap (λ (l : List What). l ++ whats_of number (taken_of all.runs.moves)) blank in
      let is_pass : r.pass ≡ end.1 = same_there (map (λ (r : HasRead I G). r.pass) read) number r.pass end.1 (at_map (λ (r : HasRead I G). r.pass) read number r at_read) end.3 in
      comes start all.runs.moves limit number (link_view remaining contents refused link) (link_view remaining contents refused (link_of r w))
      pass.0 r.pass taker.0 w.taker served.0 p r.fault w.fault reads (all.inbox.3 number pass.0 pass.1) writes (all.outboxes.3 number taker.0 taker.1) served.2
      (end.5.0, ap (λ (x : PassView). x.put) is_pass ∙ end.5.1 ∙ ap (λ (l : List What). l ++ end.5.0) is_taken) (outbox number w p at_written at_putter)

  pub relays : (left : Row) → EachPair Follows written putters → AreJoined desk (map (λ (r : HasRead I G). r.pass) read) left
      → Relays start limit (map (link_view remaining contents refused) links) (map (ended_view remaining contents refused) (all_given read written putters))
  relays left outbox joined =
      let give = paired given_back read written in
      let sizes_give : length give ≡ length read = length_paired given_back read written (size_written ∙ sym size_read) in
      let sizes : length (all_given read written putters) ≡ length links =
      length_paired (λ g putter. g putter) give putters (size_putters ∙ sym size_read ∙ sym sizes_give) ∙ sizes_give ∙ size_read in (
        length-map (all_given read written putters) (ended_view remaining contents refused) ∙ sizes ∙ sym (length-map links (link_view remaining contents refused)),
        (
          steps_of all.runs.moves,
          subst (λ (n : ℕ). AreOfLinks n (steps_of all.runs.moves)) (all.outboxes.0 ∙ sym (length-map links (link_view remaining contents refused))) all.runs.of_links,
          all.runs.moves,
          refl,
          λ number old now is_old is_now.
              let room : number < length links = let h = within (map (link_view remaining contents refused) links) number old is_old in let s = length-map links (link_view remaining contents refused) in omega arith in
              let link = there links number room in
              let r = there read number (let s = size_read in omega arith) in
              let w = there written number (let s = size_written in omega arith) in
              let p = there putters number (let s = size_putters in omega arith) in
              let old_is : link_view remaining contents refused link.0 ≡ old = same_there (map (link_view remaining contents refused) links) number (link_view remaining contents refused link.0) old
              (at_map (link_view remaining contents refused) links number link.0 link.1) is_old in
              let given_is : get_elem? (all_given read written putters) number ≡ some (given_back r.0 w.0 p.0) = at_pair (λ g putter. g putter) give putters number (given_back r.0 w.0) p.0
              (at_pair given_back read written number r.0 w.0 r.1 w.1) p.1 in
              let now_is : ended_view remaining contents refused (given_back r.0 w.0 p.0) ≡ now = same_there (map (ended_view remaining contents refused) (all_given read written putters)) number
              (ended_view remaining contents refused (given_back r.0 w.0 p.0)) now (at_map (ended_view remaining contents refused) (all_given read written putters) number (given_back r.0 w.0 p.0) given_is) is_now in
              subst (λ (y : LinkView × Ended). HasCarried start all.runs.moves limit number y.0 y.1.link y.1.fault) (λ i. (old_is i, now_is i))
              (link_comes left outbox joined number link.0 r.0 w.0 p.0 link.1 r.1 w.1 p.1),
        ),
      )

-- the threads' works were made of the links, and each was done
pub has_ended : {I O G K : Type 0} (remaining : I → Option (List ℕ)) (contents : O → Option (List ℕ)) (refused : G → ℕ) (alloc : Global) (limit : ℕ) (links : List (Link I O G))
    (reads : List (Reading I G)) (writes : List (Writing O)) (calling : Calling K) (read : List (HasRead I G)) (written : List (HasWritten O)) (called : HasCalled)
    → HaveQueues alloc limit links reads writes calling.desk calling.putters.items
    → AreRead remaining refused reads read → AreWritten contents writes written → IsCalled calling called
    → HasEnded remaining contents refused calling.controller alloc limit links read written called.desk called.putters.items
has_ended remaining contents refused alloc limit links reads writes calling read written called have does_r does_w does = record {
  first_desk = calling.desk;
  passes = have.passes;
  first_putters = calling.putters.items;
  takers = have.takers;
  inbox = have.inbox;
  outboxes = have.outboxes;
  reads = subst (λ rs. AreRead remaining refused rs read) have.readers does_r;
  writes = subst (λ ws. AreWritten contents ws written) have.writers does_w;
  runs = does;
}
