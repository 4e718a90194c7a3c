mod RefusalLaws
mod Saying
