-- What is to be shown of each move: it answers as the step does that it is, and leaves what mirrors the state after that.
pub mod MoveAnswerLemmas
-- When a move answers as a step does, which calls are parked after it, and whether it may be refused.
pub mod MoveAnswers
-- Lists of open calls: the one of a thread, and who is parked, once one of them goes on.
pub mod CallListLemmas
-- Where the moves of an open call lead, so do its steps.
pub mod AfterMoveLemmas
-- Where a move of an open call leads that isn't refused.
pub mod MoveLeadLemmas
-- A move that is refused is one that a configuration says may be.
pub mod RefusedMoveLemmas
-- Where a refused move of an open call leads.
pub mod RefusalLeadLemmas
-- Where a refused move leads: the channel stays, and the call is as far as it is without memory.
pub mod RefusingLemmas
-- The step of an open call is a move of it.
pub mod StepMoveLemmas
-- Where a move leads that isn't refused: the configuration that it leaves agrees with its step, or the call has come to a wrong answer.
pub mod SteppingLemmas
-- A configuration agrees with one more step that isn't refused, as the move leaves it.
pub mod AnsweringLemmas
-- Who is parked after a step, with which tickets.
pub mod ParkingLemmas
-- A configuration agrees with one more step of a call.
pub mod AgreeingLemmas
-- Which steps are refused, and how far a call is then.
pub mod RefusalLemmas
-- Which moves a call makes that is so far, and which answers they never have.
pub mod MoveFactLemmas
-- How far a call is after a reply: its progress is that of its stage, unless its answer is wrong.
pub mod ProgressLemmas
-- Replies that are alike lead a call as far, apart from its ticket.
pub mod StageLemmas
-- A state that stands for a log stands for the one whose last reply is the same: a drained list counts by its messages.
pub mod SameReplyLemmas
-- What a configuration and the state that it mirrors have alike: whether they are closed or full, and whether somebody waits.
pub mod MirrorViewLemmas
-- The events at places, and the calls of threads.
pub mod EventsAtLemmas
-- What `==` says of calls and of receives.
pub mod SameLemmas
-- The steps of an open call, among the choices.
pub mod StepLemmas
-- Why a configuration is dead: nothing that may come next leads on.
pub mod DeadReceiveLemmas
-- What may come next: the next event, or a step of an open call; and only the event, if it begins a call, or if the
-- call that returns has its answer.
pub mod CoverLemmas
-- When the next event can't come: it begins a call of a thread that has one open, or returns what the open call may not.
pub mod WaitLemmas
-- The open call of a thread, when a call begins and when one returns.
pub mod ThreadCallLemmas
-- Where the next event leads: it begins a call, which is open from then on, or returns one, which is open no more.
pub mod HappeningLemmas
-- The events of the items of a replay.
pub mod TakeLemmas
-- Beginnings of events.
pub mod BeginningLemmas
-- Patterns that are seen at places.
pub mod SeenPatternLemmas
-- The configuration of a new channel agrees with no items; so if it is dead, nothing explains the events.
pub mod StartLemmas
-- If a wake round ends at a receive, those behind it stay as they are.
pub mod RoundLemmas
-- What is done to parked receives by their places is done to entries by their tickets: a wake round, one that leaves, one that asks again.
pub mod RenamingLemmas
-- What is done to parked receives by their places is done to entries by their tickets, if no two places share a ticket.
pub mod PlacingLemmas
-- Who is left blocked or parked by a move, by places; and the tickets of places, once one has a new ticket.
pub mod LeftPlaceLemmas
-- Who is left blocked or parked once the front was handed out, or a receive left or asked again, by places.
pub mod LeftReceiveLemmas
-- What a wake round leaves of a configuration mirrors what it leaves of a state.
pub mod MirrorWakeLemmas
-- What the front of the line, handed out, leaves of a configuration mirrors what it leaves of a state.
pub mod MirrorTakeLemmas
-- What a receive that leaves, asks again or parks leaves of a configuration mirrors what it leaves of a state.
pub mod MirrorReceiveLemmas
-- Blocked sends that join the queue by their places do so by their tickets.
pub mod MirrorAdmitLemmas
-- Blocked sends join the queue one by one while it has room.
pub mod AdmissionLemmas
-- What many moves have in common: the step that a move is, who is left if nobody moves, and a move that changes nothing.
pub mod MoveCaseLemmas
-- The moves by which a message is offered: they answer as their steps do.
pub mod SendMoveLemmas
-- The blocked sends by places and by tickets: whether one is blocked, and what is left without it.
pub mod BlockedPlaceLemmas
-- The moves by which a parked send asks or leaves: they answer as their steps do.
pub mod SendAskLemmas
-- A receive that isn't parked answers as the channel does: it takes the front of the line, or finds none, and parks then if it may.
pub mod ReceiveMoveLemmas
-- A parked receive that asks answers as the channel does.
pub mod PollMoveLemmas
-- A parked receive that leaves answers as the channel does.
pub mod WithdrawMoveLemmas
-- The queries answer as their steps do, and change nothing.
pub mod QueryMoveLemmas
-- The moves by which ends join and leave answer as their steps do.
pub mod EndMoveLemmas
-- The moves after which blocked sends join the queue, since it was drained or has another capacity, answer as their steps do.
pub mod AdmitMoveLemmas
-- An end that leaves, by the places of calls and by tickets.
pub mod LeavingEndLemmas
-- Each move answers as the step does that it is.
pub mod EachMoveLemmas
-- A level of configurations is dead if the next one is, once each of them was expanded.
pub mod LevelLemmas
-- What is so after more items: what an open call got, what was offered, and what of that is kept.
pub mod LaterItemLemmas
-- Which messages are in the line, and which of them can't be handed out after another one.
pub mod LineLemmas
-- A configuration is dead if a message in its queue is overtaken.
pub mod OvertakingLemmas
